-- Definitions of cc_state_values_sound, passed on.
pub use Rattle.cc_state_values_sound.specs.Steps
