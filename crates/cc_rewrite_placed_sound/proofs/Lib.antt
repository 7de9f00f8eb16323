pub mod Joined
pub mod Meetings
pub mod Objects
pub mod Places
pub mod Ranks
pub mod Standing
