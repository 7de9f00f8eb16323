-- Definitions of cc_eval, passed on.
pub use Rattle.cc_eval.specs.Context
pub use Rattle.cc_eval.specs.Progress
pub use Rattle.cc_eval.specs.View
pub use Rattle.cc_eval.specs.declared
