-- Definitions of cc_typed, passed on.
pub use Rattle.cc_steps.specs.CcTyped.View
