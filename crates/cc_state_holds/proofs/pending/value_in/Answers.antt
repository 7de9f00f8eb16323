-- By the result that is not written yet, if there is one.
use Rattle.std.proofs.Common.{ap}
use Rattle.std.specs.Option.{option_copied}
use Rattle.cc_state_holds.proofs.Results.{value_none, value_own, value_other}
use Rattle.cc_state_holds.proofs.pending.value_in.Goals as goal
use Rattle.cc_steps.specs.View.{active_of}

pub returns-in-None : goal.returns-in-None
returns-in-None c = value_none (active_of c.args.a.now) c.args.r (option_copied c.args.pending) (option_copied c.written.result) (ap option_copied c.in-None.is) c.written.ensures

pub returns-then-r-given : goal.returns-then-r-given
returns-then-r-given c = value_own (active_of c.args.a.now) c.args.r (option_copied c.args.pending) c.in-Some.given.now (ap option_copied c.in-Some.is) c.if-r-given.true

pub returns-else-r-given : goal.returns-else-r-given
returns-else-r-given c = value_other (active_of c.args.a.now) c.args.r (option_copied c.args.pending) c.in-Some.given.now (option_copied c.written-else-r-given.result) (ap option_copied c.in-Some.is) c.if-r-given.false c.written-else-r-given.ensures
