pub mod CodedObjects
pub mod PlacedLayouts
