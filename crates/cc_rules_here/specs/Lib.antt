pub mod HereAt
pub mod Marks
