pub mod Assignments
pub mod Calls
pub mod Casts
pub mod Designators
pub mod Postfix
pub mod View
