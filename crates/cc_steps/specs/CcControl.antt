-- Definitions of cc_control, passed on.
pub use Rattle.cc_control.specs.Control
pub use Rattle.cc_control.specs.declared
