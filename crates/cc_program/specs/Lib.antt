pub mod Qualifiers
pub mod CcNum
pub mod CcWords
