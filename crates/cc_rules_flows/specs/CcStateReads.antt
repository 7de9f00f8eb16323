-- Definitions of cc_state_reads, passed on.
pub use Rattle.cc_state_reads.specs.Contexts
pub use Rattle.cc_state_reads.specs.Named
pub use Rattle.cc_state_reads.specs.Reads
