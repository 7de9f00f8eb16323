-- Definitions of cc_states, passed on.
pub use Rattle.cc_rules_flows.specs.CcStates.Typed
