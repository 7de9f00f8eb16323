-- Definitions of cc_places, passed on.
pub use Rattle.cc_state_values.specs.CcPlaces.Abstract
pub use Rattle.cc_state_values.specs.CcPlaces.Kept
pub use Rattle.cc_state_values.specs.CcPlaces.Members
pub use Rattle.cc_state_values.specs.CcPlaces.Moves
pub use Rattle.cc_state_values.specs.CcPlaces.Order
pub use Rattle.cc_state_values.specs.CcPlaces.Sets
pub use Rattle.cc_state_values.specs.CcPlaces.declared
pub use Rattle.cc_state_values.specs.CcPlaces.laws
