pub mod Covered
pub mod Points
pub mod Shape
pub mod View
pub mod CcStateValuesGrow
pub mod CcStateValuesSound
