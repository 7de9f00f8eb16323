pub mod Links
pub mod ListLemmas
pub mod StmtLemmas
