pub mod Rows
pub mod Functions
pub mod Alike
pub mod KeyKinds
pub mod Lowering
