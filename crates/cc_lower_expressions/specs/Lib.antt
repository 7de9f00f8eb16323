pub mod Expressions
pub mod Temporaries
pub mod Statements
pub mod Programs
