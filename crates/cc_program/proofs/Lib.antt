pub mod Each
pub mod ExprInduction
pub mod FoldFusion
pub mod Levels
pub mod QualifierLemmas
pub mod StmtInduction
pub mod TypeInduction
pub mod CcNum
