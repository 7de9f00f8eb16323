pub mod Acting
pub mod ContextLemmas
pub mod FrameLemmas
pub mod Steps
pub mod Tests
