-- Definitions of cc_typed_statements, passed on.
pub use Rattle.cc_typed_statements.specs.Conditions
pub use Rattle.cc_typed_statements.specs.Jumps
pub use Rattle.cc_typed_statements.specs.Labels
pub use Rattle.cc_typed_statements.specs.Statements
pub use Rattle.cc_typed_statements.specs.Switch
pub use Rattle.cc_typed_statements.specs.declared
