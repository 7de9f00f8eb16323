pub mod AssignedLemmas
pub mod Opened
pub mod AccessRules
