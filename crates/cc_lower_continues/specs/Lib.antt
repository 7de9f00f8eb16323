pub mod Continues
