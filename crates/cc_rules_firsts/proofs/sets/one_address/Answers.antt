use Rattle.cc_rules_firsts.proofs.Least.{address_least}
use Rattle.cc_rules_firsts.proofs.sets.one_address.Goals as goal

pub returns : goal.returns
returns g c = address_least g.I.Concrete.Has g.I.Lattice.IsBelow c.args.a.now c.in_ok-set.set c.in_ok-set.ensures
