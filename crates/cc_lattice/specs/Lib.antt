pub mod Domains
pub mod Orders
pub mod Pairs
pub mod Systems
pub mod TableLaws
pub mod Tables
