pub mod View
pub mod CcSyntax
