pub mod CellTypes
pub mod Contexts
pub mod KeyKinds
pub mod Lists
pub mod Numbered
pub mod Sets
pub mod CcStateValuesGrow
