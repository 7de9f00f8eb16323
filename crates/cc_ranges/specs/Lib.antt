pub mod Ends
pub mod Keep
pub mod Rules
pub mod laws
pub mod Spans
