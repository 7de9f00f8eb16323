-- Lemmas of cc_flow, passed on.
pub use Rattle.cc_flow_sound.proofs.CcFlow.Inside
pub use Rattle.cc_flow_sound.proofs.CcFlow.Paths
pub use Rattle.cc_flow_sound.proofs.CcFlow.Tests
