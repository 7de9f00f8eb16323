pub mod NewNames
