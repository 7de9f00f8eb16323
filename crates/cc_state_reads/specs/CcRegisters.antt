-- Definitions of cc_registers, passed on.
pub use Rattle.cc_state_keys.specs.CcRegisters.Kept
