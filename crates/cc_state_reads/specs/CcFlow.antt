-- Definitions of cc_flow, passed on.
pub use Rattle.cc_state_keys.specs.CcFlow.Laws
pub use Rattle.cc_state_keys.specs.CcFlow.Points
pub use Rattle.cc_state_keys.specs.CcFlow.declared
