pub mod Wishing
