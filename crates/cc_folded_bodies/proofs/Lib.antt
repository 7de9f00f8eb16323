pub mod Statements
pub mod Initialisers
pub mod Declarations
pub mod Constructs
pub mod Induction
