pub mod AskedLemmas
pub mod Having
pub mod Solutions
