-- Definitions of cc_control, passed on.
pub use Rattle.cc_steps.specs.CcControl.Control
pub use Rattle.cc_steps.specs.CcControl.declared
