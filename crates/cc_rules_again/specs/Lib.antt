pub mod Again
pub mod Named
pub mod Things
