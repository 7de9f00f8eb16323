-- Definitions of cc_eval, passed on.
pub use Rattle.cc_state_keys.specs.CcEval.Context
pub use Rattle.cc_state_keys.specs.CcEval.Progress
pub use Rattle.cc_state_keys.specs.CcEval.View
pub use Rattle.cc_state_keys.specs.CcEval.declared
