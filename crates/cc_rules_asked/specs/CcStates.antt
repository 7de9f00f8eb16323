-- Definitions of cc_states, passed on.
pub use Rattle.cc_rules.specs.CcStates.Typed
