-- Definitions of cc_state, passed on.
pub use Rattle.cc_state_points.specs.CcState.Covered
pub use Rattle.cc_state_points.specs.CcState.Shape
