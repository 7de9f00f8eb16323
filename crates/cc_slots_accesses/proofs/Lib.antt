pub mod Listed
pub mod NamedLemmas
pub mod OutsideLemmas
pub mod Owns
pub mod PutAll
pub mod PutLemmas
