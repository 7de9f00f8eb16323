pub mod Declarations
pub mod Declarators
mod Expressions
pub mod Induction
mod Initialisers
pub mod Lawful
mod Laws
mod Layers
mod Structures
mod Trees
mod Typed
