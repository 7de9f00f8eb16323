-- Definitions of cc_initialisers, passed on.
pub use Rattle.cc_initialisers.specs.Contents
pub use Rattle.cc_initialisers.specs.Initialisers
pub use Rattle.cc_initialisers.specs.Scalars
