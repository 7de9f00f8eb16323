-- Definitions of cc_state_values, passed on.
pub use Rattle.cc_state_values.specs.Contexts
pub use Rattle.cc_state_values.specs.Typed
pub use Rattle.cc_state_values.specs.Values
pub use Rattle.cc_state_values.specs.declared
