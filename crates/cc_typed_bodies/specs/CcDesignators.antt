-- Definitions of cc_designators, passed on.
pub use Rattle.cc_terms.specs.CcDesignators.Assignments
pub use Rattle.cc_terms.specs.CcDesignators.Calls
pub use Rattle.cc_terms.specs.CcDesignators.Casts
pub use Rattle.cc_terms.specs.CcDesignators.Designators
pub use Rattle.cc_terms.specs.CcDesignators.Postfix
