-- Definitions of cc_control, passed on.
pub use Rattle.cc_rules.specs.CcControl.Control
