pub mod OrderLaws
pub mod ListLaws
pub mod KeptLaws
pub mod SetLaws
pub mod MoveLaws
pub mod AbstractLaws
