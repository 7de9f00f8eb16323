-- Definitions of cc_control, passed on.
pub use Rattle.cc_states.specs.CcControl.Control
pub use Rattle.cc_states.specs.CcControl.declared
