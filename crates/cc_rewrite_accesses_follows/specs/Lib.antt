pub mod Accesses
pub mod Asked
pub mod Evaluates
pub mod Numbers
