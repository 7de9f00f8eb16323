pub mod Room
pub mod Small
