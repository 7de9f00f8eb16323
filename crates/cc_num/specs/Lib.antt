pub mod formers
pub mod Integers
pub mod Promotions
pub mod Results
