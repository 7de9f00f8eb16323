pub mod LimitLaws
pub mod OneCause
pub mod Since
pub mod SourceLaws
pub mod Told
