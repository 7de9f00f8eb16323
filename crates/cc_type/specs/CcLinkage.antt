-- Definitions of cc_linkage, passed on.
pub use Rattle.cc_typed_bodies.specs.CcLinkage.Linkage
pub use Rattle.cc_typed_bodies.specs.CcLinkage.declared
