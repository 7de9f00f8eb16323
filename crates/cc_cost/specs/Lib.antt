pub mod Keys
pub mod Settings
pub mod Rules
pub mod Given
pub mod Outcomes
pub mod Sets
