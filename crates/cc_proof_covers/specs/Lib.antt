pub mod Covers
pub mod Invariant
pub mod Operands
pub mod Pending
pub mod Rules
pub mod Views
