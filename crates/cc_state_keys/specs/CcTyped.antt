-- Definitions of cc_typed, passed on.
pub use Rattle.cc_eval.specs.CcTyped.View
