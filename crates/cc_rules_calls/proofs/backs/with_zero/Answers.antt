use Rattle.std.proofs.Common.{pos, refl}
use Rattle.std.proofs.lemmas.Result.{IfOk-weaker}
use Rattle.cc_state_points.specs.CcLattice.Orders.{IsLeastUpperBound}
use Rattle.cc_state_points.specs.CcPlaces.declared.abs.Abs.TheVariants as abs
use Rattle.cc_state_points.specs.CcPlaces.Abstract.{AreOfOneKind, IsBelowAbs}
use Rattle.cc_rules_calls.proofs.ResultLemmas.{is_with_zero}
use Rattle.cc_state_points.specs.CcStateOperators.Domains.{domain}
use Rattle.cc_rules_calls.proofs.backs.with_zero.Goals as goal

pub join-requires : goal.join-requires
join-requires g c = c.requires c.one.result

pub returns : goal.returns
returns g c =
    IfOk-weaker c.join.result (λ both. IsLeastUpperBound AreOfOneKind (IsBelowAbs g.I.Lattice.IsBelow) c.args.set.now (abs.Ints c.one.result) both) _
    (λ both l. is_with_zero (domain g.I.Concrete.Has g.I.Lattice.IsBelow g.I.IntDomain.OpGives g.I.IntDomain.OpOneGives g.I.IntDomain.ToGives g.I.IntDomain.KeepGives g.I.IntDomain.members_of) c.args.set.now c.one.result both ((c.one.ensures.has (pos 0)).1 refl) c.one.ensures.least l) c.join.ensures
