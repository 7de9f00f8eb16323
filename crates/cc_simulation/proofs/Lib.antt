pub mod OneAnswer
pub mod ProgramTraces
pub mod Reading
pub mod RunLaws
