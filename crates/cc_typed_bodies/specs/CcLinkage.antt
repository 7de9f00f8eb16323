-- Definitions of cc_linkage, passed on.
pub use Rattle.cc_linkage.specs.Linkage
pub use Rattle.cc_linkage.specs.declared
