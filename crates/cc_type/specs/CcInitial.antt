-- Definitions of cc_initial, passed on.
pub use Rattle.cc_typed_bodies.specs.CcInitial.Addresses
