pub mod Known
pub mod Order
pub mod OwnIds
pub mod Places
