pub mod Answers
pub mod CommandLaws
pub mod Numbers
