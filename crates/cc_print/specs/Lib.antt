pub mod Units
pub mod Values
pub mod Printed
