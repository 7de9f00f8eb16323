-- Definitions of cc_control, passed on.
pub use Rattle.cc_flow_sound.specs.CcControl.Control
