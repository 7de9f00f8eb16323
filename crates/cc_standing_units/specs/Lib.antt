pub mod Closed
pub mod Laid
pub mod Views
