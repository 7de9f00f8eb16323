pub mod Instance
pub mod LoweredTemporaries
pub mod Outside
