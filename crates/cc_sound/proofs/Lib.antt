pub mod NameLemmas
pub mod DropLemmas
pub mod LabelLemmas
pub mod StatementLemmas
pub mod PathLemmas
pub mod LeafLemmas
pub mod LeafSteps
pub mod Decisions
