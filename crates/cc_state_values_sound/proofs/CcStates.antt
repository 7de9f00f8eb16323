-- Lemmas of cc_states, passed on.
pub use Rattle.cc_states.proofs.AddressLemmas
pub use Rattle.cc_states.proofs.ControlLemmas
pub use Rattle.cc_states.proofs.EvalTypes
pub use Rattle.cc_states.proofs.GivenLemmas
pub use Rattle.cc_states.proofs.ListLemmas
pub use Rattle.cc_states.proofs.MemoryLemmas
pub use Rattle.cc_states.proofs.Options
pub use Rattle.cc_states.proofs.PathLemmas
pub use Rattle.cc_states.proofs.PlaceLemmas
pub use Rattle.cc_states.proofs.ReachLemmas
pub use Rattle.cc_states.proofs.SoundLemmas
pub use Rattle.cc_states.proofs.SpotLemmas
pub use Rattle.cc_states.proofs.StateLemmas
pub use Rattle.cc_states.proofs.TakenLemmas
pub use Rattle.cc_states.proofs.TurnLemmas
