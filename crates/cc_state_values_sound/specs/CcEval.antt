-- Definitions of cc_eval, passed on.
pub use Rattle.cc_state_values.specs.CcEval.Context
pub use Rattle.cc_state_values.specs.CcEval.Eval
pub use Rattle.cc_state_values.specs.CcEval.Marks
pub use Rattle.cc_state_values.specs.CcEval.Progress
pub use Rattle.cc_state_values.specs.CcEval.declared
