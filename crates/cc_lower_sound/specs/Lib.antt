pub mod Folded
pub mod Normal
pub mod Pieces
pub mod Statements
