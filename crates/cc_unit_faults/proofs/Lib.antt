mod Definitions
mod Laws
mod Lines
mod Lifted
mod Statements
mod Units
