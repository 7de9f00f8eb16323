pub mod Founds
pub mod Trees
pub mod TreeInduction
