-- Lemmas of cc_flow_sound, passed on.
pub use Rattle.cc_flow_sound.proofs.Normal
pub use Rattle.cc_flow_sound.proofs.Numbered
pub use Rattle.cc_flow_sound.proofs.Opened
pub use Rattle.cc_flow_sound.proofs.Places
pub use Rattle.cc_flow_sound.proofs.Reached
pub use Rattle.cc_flow_sound.proofs.Segments
pub use Rattle.cc_flow_sound.proofs.Starts
