-- Definitions of cc_initialisers, passed on.
pub use Rattle.cc_typed_bodies.specs.CcInitialisers.Contents
pub use Rattle.cc_typed_bodies.specs.CcInitialisers.Initialisers
pub use Rattle.cc_typed_bodies.specs.CcInitialisers.Scalars
