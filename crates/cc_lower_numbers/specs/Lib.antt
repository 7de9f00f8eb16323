pub mod Numbered
pub mod Order
pub mod Renamed
pub mod Temporaries
pub mod TemporaryNames
