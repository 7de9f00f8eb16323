-- Definitions of cc_eval, passed on.
pub use Rattle.cc_states.specs.CcEval.Context
pub use Rattle.cc_states.specs.CcEval.Eval
pub use Rattle.cc_states.specs.CcEval.Marks
pub use Rattle.cc_states.specs.CcEval.Progress
pub use Rattle.cc_states.specs.CcEval.declared
