-- Definitions of cc_syntax, passed on.
pub use Rattle.cc_rules_flows.specs.CcSyntax.Effects
pub use Rattle.cc_rules_flows.specs.CcSyntax.Expressions
pub use Rattle.cc_rules_flows.specs.CcSyntax.Folding
pub use Rattle.cc_rules_flows.specs.CcSyntax.Forms
pub use Rattle.cc_rules_flows.specs.CcSyntax.Initial
pub use Rattle.cc_rules_flows.specs.CcSyntax.Layout
pub use Rattle.cc_rules_flows.specs.CcSyntax.Normal
pub use Rattle.cc_rules_flows.specs.CcSyntax.Operators
pub use Rattle.cc_rules_flows.specs.CcSyntax.Programs
pub use Rattle.cc_rules_flows.specs.CcSyntax.Registers
pub use Rattle.cc_rules_flows.specs.CcSyntax.SameTypes
pub use Rattle.cc_rules_flows.specs.CcSyntax.Sizes
pub use Rattle.cc_rules_flows.specs.CcSyntax.Sound
pub use Rattle.cc_rules_flows.specs.CcSyntax.Statements
pub use Rattle.cc_rules_flows.specs.CcSyntax.Types
pub use Rattle.cc_rules_flows.specs.CcSyntax.Values
pub use Rattle.cc_rules_flows.specs.CcSyntax.declared
