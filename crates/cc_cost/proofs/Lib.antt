pub mod Distinct
pub mod Examples
pub mod FaultLemmas
pub mod Kept
pub mod LineLemmas
pub mod RoleLemmas
pub mod RowLemmas
pub mod SetLemmas
