pub mod Pieces
pub mod Constants
pub mod Declarators
pub mod View
