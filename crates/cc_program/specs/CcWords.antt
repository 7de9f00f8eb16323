-- Definitions of cc_words, passed on.
pub use Rattle.cc_words.specs.Names
pub use Rattle.cc_words.specs.Words
pub use Rattle.cc_words.specs.declared
