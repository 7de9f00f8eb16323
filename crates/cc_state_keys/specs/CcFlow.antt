-- Definitions of cc_flow, passed on.
pub use Rattle.cc_flow.specs.Laws
pub use Rattle.cc_flow.specs.Points
pub use Rattle.cc_flow.specs.declared
