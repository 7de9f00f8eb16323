pub mod FactJoins
pub mod LevelBits
pub mod OneKind
pub mod Steps
