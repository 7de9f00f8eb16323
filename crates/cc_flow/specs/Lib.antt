pub mod Laws
pub mod Next
pub mod Points
pub mod View
