-- Lemmas of cc_typed, passed on.
pub use Rattle.cc_typed.proofs.ListLemmas
