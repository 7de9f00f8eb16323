pub mod AddressedStatements
pub mod AlikePrograms
pub mod DeclaredTemporaries
pub mod LowerableStatements
pub mod LoweredPrograms
pub mod OldExpressions
pub mod ReturnMarks
pub mod SameRegisters
