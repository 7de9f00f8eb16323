pub mod Control
pub mod View
