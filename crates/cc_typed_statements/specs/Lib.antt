pub mod Conditions
pub mod Jumps
pub mod LabelSets
pub mod Labels
pub mod Statements
pub mod Switch
