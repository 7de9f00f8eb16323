pub mod Fitting
pub mod Growing
pub mod Images
pub mod Joins
pub mod Leading
pub mod Sets
