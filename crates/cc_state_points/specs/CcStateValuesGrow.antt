-- Definitions of cc_state_values_grow, passed on.
pub use Rattle.cc_state.specs.CcStateValuesGrow.Growth
