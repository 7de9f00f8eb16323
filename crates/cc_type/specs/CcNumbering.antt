-- Definitions of cc_numbering, passed on.
pub use Rattle.cc_numbering.specs.Names
pub use Rattle.cc_numbering.specs.Numbers
pub use Rattle.cc_numbering.specs.Structures
pub use Rattle.cc_numbering.specs.Units
