pub mod AscendLemmas
pub mod Coming
pub mod DriveLemmas
pub mod HandlerLemmas
pub mod LineLemmas
pub mod TraceLemmas
