-- Definitions of cc_steps, passed on.
pub use Rattle.cc_steps.specs.Access
pub use Rattle.cc_steps.specs.Rows
pub use Rattle.cc_steps.specs.Runs
pub use Rattle.cc_steps.specs.State
pub use Rattle.cc_steps.specs.Step
pub use Rattle.cc_steps.specs.Turn
pub use Rattle.cc_steps.specs.View
pub use Rattle.cc_steps.specs.Whole
pub use Rattle.cc_steps.specs.declared
