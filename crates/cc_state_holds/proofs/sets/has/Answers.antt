-- By the set, if there is one.
use Rattle.std.proofs.Common.{ap}
use Rattle.std.specs.Option.{option_copied}
use Rattle.cc_state_reads.specs.CcPlaces.Abstract.{HasValue}
use Rattle.cc_state_holds.proofs.Held.{there_some, there_none}
use Rattle.cc_state_holds.proofs.sets.has.Goals as goal

pub returns-in-None : goal.returns-in-None
returns-in-None g c = there_none (λ y. HasValue g.I.Concrete.Has y c.args.value.now) (option_copied c.args.set) (ap option_copied c.in-None.is)

pub returns-in-Some : goal.returns-in-Some
returns-in-Some g c = there_some (λ y. HasValue g.I.Concrete.Has y c.args.value.now) (option_copied c.args.set) c.in-Some.set.now c.has.result (ap option_copied c.in-Some.is) c.has.ensures
