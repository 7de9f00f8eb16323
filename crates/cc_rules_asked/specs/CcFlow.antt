-- Definitions of cc_flow, passed on.
pub use Rattle.cc_rules.specs.CcFlow.Laws
pub use Rattle.cc_rules.specs.CcFlow.Points
pub use Rattle.cc_rules.specs.CcFlow.declared
