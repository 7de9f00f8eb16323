pub mod PairLemmas
pub mod ListLemmas
pub mod KindLemmas
pub mod CallLemmas
pub mod CastLemmas
pub mod SwitchLemmas
pub mod CcSyntax
