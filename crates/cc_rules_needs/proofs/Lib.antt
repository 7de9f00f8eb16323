pub mod AtPoint
pub mod ByParts
pub mod Others
pub mod PutLaws
pub mod Puts
pub mod RaisedPoints
pub mod Through
pub mod Zips
