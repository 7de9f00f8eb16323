-- Definitions of cc_syntax, passed on.
pub use Rattle.cc_states.specs.CcSyntax.Effects
pub use Rattle.cc_states.specs.CcSyntax.Expressions
pub use Rattle.cc_states.specs.CcSyntax.Folding
pub use Rattle.cc_states.specs.CcSyntax.Forms
pub use Rattle.cc_states.specs.CcSyntax.Normal
pub use Rattle.cc_states.specs.CcSyntax.Operators
pub use Rattle.cc_states.specs.CcSyntax.Programs
pub use Rattle.cc_states.specs.CcSyntax.Registers
pub use Rattle.cc_states.specs.CcSyntax.SameTypes
pub use Rattle.cc_states.specs.CcSyntax.Sound
pub use Rattle.cc_states.specs.CcSyntax.Types
pub use Rattle.cc_states.specs.CcSyntax.Values
