-- Definitions of cc_places, passed on.
pub use Rattle.cc_rules.specs.CcPlaces.Abstract
pub use Rattle.cc_rules.specs.CcPlaces.Kept
pub use Rattle.cc_rules.specs.CcPlaces.Sets
pub use Rattle.cc_rules.specs.CcPlaces.declared
pub use Rattle.cc_rules.specs.CcPlaces.laws
