-- Definitions of cc_typed_statements, passed on.
pub use Rattle.cc_typed_bodies.specs.CcTypedStatements.Conditions
pub use Rattle.cc_typed_bodies.specs.CcTypedStatements.Jumps
pub use Rattle.cc_typed_bodies.specs.CcTypedStatements.Labels
pub use Rattle.cc_typed_bodies.specs.CcTypedStatements.Statements
pub use Rattle.cc_typed_bodies.specs.CcTypedStatements.Switch
pub use Rattle.cc_typed_bodies.specs.CcTypedStatements.declared
