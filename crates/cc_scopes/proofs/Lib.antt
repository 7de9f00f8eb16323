pub mod KnownLemmas
pub mod LayoutLemmas
pub mod LinkedLemmas
pub mod Outcomes
pub mod ScopeMaps
pub mod States
pub mod CcLex
pub mod CcSyntax
