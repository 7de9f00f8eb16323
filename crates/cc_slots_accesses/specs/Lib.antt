pub mod Accesses
pub mod Arrays
pub mod Known
pub mod Named
pub mod Outside
pub mod Puts
pub mod Visits
