-- Definitions of cc_state_reads, passed on.
pub use Rattle.cc_rules.specs.CcStateReads.Named
pub use Rattle.cc_rules.specs.CcStateReads.Reads
