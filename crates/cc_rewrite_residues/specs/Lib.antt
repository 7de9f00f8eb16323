pub mod Residues
pub mod Standing
