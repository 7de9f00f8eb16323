pub mod CodeEquations
pub mod Layers
