-- Definitions of cc_state_reads, passed on.
pub use Rattle.cc_rules_flows.specs.CcStateReads.Contexts
pub use Rattle.cc_rules_flows.specs.CcStateReads.Named
pub use Rattle.cc_rules_flows.specs.CcStateReads.Reads
