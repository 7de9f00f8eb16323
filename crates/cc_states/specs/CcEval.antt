-- Definitions of cc_eval, passed on.
pub use Rattle.cc_steps.specs.CcEval.Context
pub use Rattle.cc_steps.specs.CcEval.Eval
pub use Rattle.cc_steps.specs.CcEval.Marks
pub use Rattle.cc_steps.specs.CcEval.Progress
pub use Rattle.cc_steps.specs.CcEval.declared
