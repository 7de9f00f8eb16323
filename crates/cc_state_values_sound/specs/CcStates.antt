-- Definitions of cc_states, passed on.
pub use Rattle.cc_states.specs.Answers
pub use Rattle.cc_states.specs.Inside
pub use Rattle.cc_states.specs.States
pub use Rattle.cc_states.specs.Typed
