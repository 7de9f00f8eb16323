pub mod Filled
pub mod Integers
pub mod Known
pub mod Names
pub mod Tests
pub mod Typed
