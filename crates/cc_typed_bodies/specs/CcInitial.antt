-- Definitions of cc_initial, passed on.
pub use Rattle.cc_objects.specs.CcInitial.Addresses
