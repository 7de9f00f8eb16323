-- Definitions of cc_control, passed on.
pub use Rattle.cc_rules_flows.specs.CcControl.Control
