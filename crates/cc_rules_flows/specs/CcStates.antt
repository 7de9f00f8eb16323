-- Definitions of cc_states, passed on.
pub use Rattle.cc_flow_sound.specs.CcStates.Typed
