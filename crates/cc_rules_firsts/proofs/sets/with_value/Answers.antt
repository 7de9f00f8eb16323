use Rattle.std.proofs.lemmas.Result.{IfOk-weaker}
use Rattle.cc_rules_asked.specs.CcLattice.Orders.{IsLeastUpperBound}
use Rattle.cc_rules_asked.specs.CcPlaces.Abstract.{AreOfOneKind, IsBelowAbs}
use Rattle.cc_rules_firsts.proofs.Least.{kind_fits, value_joined}
use Rattle.cc_rules_firsts.proofs.sets.with_value.Goals as goal

pub one_value-requires : goal.one_value-requires
one_value-requires g c = c.requires.0

pub join-requires : goal.join-requires
join-requires g c = kind_fits g.I.Concrete.Has g.I.Lattice.IsBelow c.args.set.now c.in_ok-one.one c.args.value.now c.requires.1 c.in_ok-one.ensures.has_it

pub returns : goal.returns
returns g c =
    IfOk-weaker c.join.result (λ both. IsLeastUpperBound AreOfOneKind (IsBelowAbs g.I.Lattice.IsBelow) c.args.set.now c.in_ok-one.one both) _
    (λ both l. value_joined g.I.Concrete.Has g.I.Lattice.IsBelow g.met.I.IntDomain.below_has c.args.set.now c.in_ok-one.one both c.args.value.now c.in_ok-one.ensures l) c.join.ensures
