pub mod Command
pub mod Make
