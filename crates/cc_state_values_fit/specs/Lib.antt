pub mod Fit
pub mod CcStateValuesGrow
