pub mod Linkage
