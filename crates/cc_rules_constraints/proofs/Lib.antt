pub mod Asks
pub mod Breaks
pub mod HereAsks
pub mod Lists
pub mod Mains
pub mod Results
