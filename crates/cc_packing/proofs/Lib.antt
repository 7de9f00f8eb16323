pub mod Complete
pub mod OneAnswer
pub mod PackLaws
pub mod ProgramTexts
pub mod Reading
