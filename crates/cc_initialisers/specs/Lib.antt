pub mod Contents
pub mod Counts
pub mod Initialisers
pub mod Scalars
pub mod View
