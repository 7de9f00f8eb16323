pub mod Kept
pub mod Later
pub mod Reduced
pub mod Typed
