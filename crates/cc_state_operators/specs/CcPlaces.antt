-- Definitions of cc_places, passed on.
pub use Rattle.cc_places.specs.Abstract
pub use Rattle.cc_places.specs.Kept
pub use Rattle.cc_places.specs.Members
pub use Rattle.cc_places.specs.Moves
pub use Rattle.cc_places.specs.Order
pub use Rattle.cc_places.specs.Sets
pub use Rattle.cc_places.specs.declared
pub use Rattle.cc_places.specs.laws
