-- Definitions of cc_eval, passed on.
pub use Rattle.cc_rules.specs.CcEval.Context
