-- Definitions of cc_places, passed on.
pub use Rattle.cc_state_reads.specs.CcPlaces.Abstract
pub use Rattle.cc_state_reads.specs.CcPlaces.Kept
pub use Rattle.cc_state_reads.specs.CcPlaces.Members
pub use Rattle.cc_state_reads.specs.CcPlaces.Order
pub use Rattle.cc_state_reads.specs.CcPlaces.Sets
pub use Rattle.cc_state_reads.specs.CcPlaces.declared
pub use Rattle.cc_state_reads.specs.CcPlaces.laws
