-- Definitions of cc_registers, passed on.
pub use Rattle.cc_rules_flows.specs.CcRegisters.Kept
