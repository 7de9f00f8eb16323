pub mod Names
pub mod Stepping
pub mod Unions
pub mod Taken
pub mod Sets
pub mod Results
pub mod Values
pub mod CcStateValuesGrow
