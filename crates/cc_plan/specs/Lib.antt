pub mod Plans
pub mod Settings
