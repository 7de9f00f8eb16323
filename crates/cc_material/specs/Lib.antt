pub mod Material
pub mod Programs
