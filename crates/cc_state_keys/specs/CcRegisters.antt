-- Definitions of cc_registers, passed on.
pub use Rattle.cc_registers.specs.Kept
