pub mod AccessedBodies
pub mod AccessedExpressions
pub mod AccessedPieces
pub mod AccessedStatements
pub mod IdleOperands
pub mod LoweredPrograms
