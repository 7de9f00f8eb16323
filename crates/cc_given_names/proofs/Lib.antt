pub mod Among
pub mod Numerals
pub mod Words
pub mod Lengths
pub mod Free
pub mod Spaces
