pub mod Itself
pub mod OperandRules
pub mod RightSides
pub mod Arguments
pub mod Steps
pub mod Arms
pub mod StatementArms
pub mod PartArms
