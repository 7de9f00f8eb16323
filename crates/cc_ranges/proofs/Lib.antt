pub mod Narrow
