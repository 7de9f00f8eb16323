-- Definitions of cc_state, passed on.
pub use Rattle.cc_state.specs.Covered
pub use Rattle.cc_state.specs.Points
pub use Rattle.cc_state.specs.Shape
