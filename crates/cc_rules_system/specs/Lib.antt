pub mod System
pub mod laws
