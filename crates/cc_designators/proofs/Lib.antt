pub mod Positions
pub mod Arguments
pub mod PointerRange
