-- Definitions of cc_syntax, passed on.
pub use Rattle.cc_rules.specs.CcSyntax.Expressions
pub use Rattle.cc_rules.specs.CcSyntax.Initial
pub use Rattle.cc_rules.specs.CcSyntax.Normal
pub use Rattle.cc_rules.specs.CcSyntax.Operators
pub use Rattle.cc_rules.specs.CcSyntax.Sound
pub use Rattle.cc_rules.specs.CcSyntax.Values
