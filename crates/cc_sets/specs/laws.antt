pub mod Ends
pub mod RungLaws
pub mod Runs
pub mod SetLaws
pub mod ToldSets
pub mod TypedSets
