-- Definitions of cc_eval, passed on.
pub use Rattle.cc_state_operators.specs.CcEval.Context
pub use Rattle.cc_state_operators.specs.CcEval.Eval
pub use Rattle.cc_state_operators.specs.CcEval.Marks
pub use Rattle.cc_state_operators.specs.CcEval.Progress
pub use Rattle.cc_state_operators.specs.CcEval.declared
