pub mod Lists
pub mod Addressed
pub mod MarkLemmas
pub mod KeptLemmas
