pub mod Spots
pub mod Names
pub mod Exprs
pub mod Stmts
pub mod View
