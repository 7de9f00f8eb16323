mod ByKind
mod Choices
mod Exact
mod Hulls
mod Images
mod Sets
mod Tests
pub mod CcEval
pub mod CcLattice
pub mod CcSyntax
