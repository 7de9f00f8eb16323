-- Definitions of cc_initial, passed on.
pub use Rattle.cc_initial.specs.Addresses
