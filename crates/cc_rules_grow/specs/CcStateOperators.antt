-- Definitions of cc_state_operators, passed on.
pub use Rattle.cc_rules.specs.CcStateOperators.Domains
