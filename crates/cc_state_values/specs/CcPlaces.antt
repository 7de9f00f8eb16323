-- Definitions of cc_places, passed on.
pub use Rattle.cc_state_operators.specs.CcPlaces.Abstract
pub use Rattle.cc_state_operators.specs.CcPlaces.Kept
pub use Rattle.cc_state_operators.specs.CcPlaces.Members
pub use Rattle.cc_state_operators.specs.CcPlaces.Moves
pub use Rattle.cc_state_operators.specs.CcPlaces.Order
pub use Rattle.cc_state_operators.specs.CcPlaces.Sets
pub use Rattle.cc_state_operators.specs.CcPlaces.declared
pub use Rattle.cc_state_operators.specs.CcPlaces.laws
