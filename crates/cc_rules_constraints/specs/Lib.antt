pub mod Asking
pub mod Broken
pub mod Ready
