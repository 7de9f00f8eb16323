pub mod CodeLemmas
pub mod Examples
pub mod KindLemmas
pub mod MemberLemmas
