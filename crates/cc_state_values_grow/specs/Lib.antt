pub mod Growth
pub mod CcStateValuesSound
