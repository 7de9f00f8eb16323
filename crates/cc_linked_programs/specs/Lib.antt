pub mod Few
pub mod FunctionTypes
pub mod Named
pub mod NamedThings
