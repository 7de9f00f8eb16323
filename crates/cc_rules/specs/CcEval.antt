-- Definitions of cc_eval, passed on.
pub use Rattle.cc_rules_flows.specs.CcEval.Context
