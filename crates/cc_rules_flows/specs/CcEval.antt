-- Definitions of cc_eval, passed on.
pub use Rattle.cc_state_reads.specs.CcEval.Context
