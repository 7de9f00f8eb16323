pub mod Columns
pub mod Examples
pub mod Standings
pub mod Table
pub mod Totals
