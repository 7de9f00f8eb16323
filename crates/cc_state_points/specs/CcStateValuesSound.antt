-- Definitions of cc_state_values_sound, passed on.
pub use Rattle.cc_state.specs.CcStateValuesSound.Steps
