-- Lemmas of cc_flow, passed on.
pub use Rattle.cc_flow.proofs.Inside
pub use Rattle.cc_flow.proofs.Paths
pub use Rattle.cc_flow.proofs.Tests
