-- Definitions of cc_syntax, passed on.
pub use Rattle.cc_rules.specs.CcSyntax.Effects
pub use Rattle.cc_rules.specs.CcSyntax.Expressions
pub use Rattle.cc_rules.specs.CcSyntax.Initial
pub use Rattle.cc_rules.specs.CcSyntax.Normal
pub use Rattle.cc_rules.specs.CcSyntax.Operators
pub use Rattle.cc_rules.specs.CcSyntax.Pairs
pub use Rattle.cc_rules.specs.CcSyntax.Programs
pub use Rattle.cc_rules.specs.CcSyntax.Registers
pub use Rattle.cc_rules.specs.CcSyntax.SameTypes
pub use Rattle.cc_rules.specs.CcSyntax.Sound
pub use Rattle.cc_rules.specs.CcSyntax.Types
pub use Rattle.cc_rules.specs.CcSyntax.Values
