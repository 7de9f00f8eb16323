-- By what stands there.
use Rattle.std.proofs.Common.{ap, ◌∙◌}
use Rattle.cc_state_holds.proofs.locals.written_at.Goals as goal
use Rattle.cc_state_holds.specs.Parts.{good}

pub returns-in-None : goal.returns-in-None
returns-in-None c = ap good c.in-None.ensures

pub returns-in-Some : goal.returns-in-Some
returns-in-Some c = c.as_ref.ensures.value ∙ ap good c.in-Some.ensures
