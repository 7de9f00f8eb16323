pub mod Raisable
