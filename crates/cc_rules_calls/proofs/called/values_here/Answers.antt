use Rattle.std.proofs.Common.{arith, sym, subst}
use Rattle.std.proofs.lemmas.List.{take_all}
use Rattle.std.specs.List.{AllZip}
use Rattle.cc_state_points.specs.CcStateOperators.Domains.{domain}
use Rattle.cc_state_points.specs.CcStateValues.Contexts.{IsPureIn, IsValIn}
use Rattle.cc_rules_calls.proofs.Listed.{zip_on, all_at}
use Rattle.cc_rules_calls.proofs.called.values_here.Goals as goal

pub value_of-requires : goal.value_of-requires
value_of-requires g c = record {
  sized = c.requires.sized;
  sets = c.requires.sets;
  pure = all_at (IsPureIn (domain g.I.Concrete.Has g.I.Lattice.IsBelow g.I.IntDomain.OpGives g.I.IntDomain.OpOneGives g.I.IntDomain.ToGives g.I.IntDomain.KeepGives g.I.IntDomain.members_of) c.args.here.now.context) c.args.args.now c.loop-e.e-index c.e-item.result c.loop-e-test.true c.e-item.is c.requires.pure;
}

pub loop-e-preserved : goal.loop-e-preserved
loop-e-preserved g c =
    subst (AllZip (IsValIn (domain g.I.Concrete.Has g.I.Lattice.IsBelow g.I.IntDomain.OpGives g.I.IntDomain.OpOneGives g.I.IntDomain.ToGives g.I.IntDomain.KeepGives g.I.IntDomain.members_of) c.args.here.now.context) _) (sym c.in_ok-push.ensures.items)
    (zip_on (IsValIn (domain g.I.Concrete.Has g.I.Lattice.IsBelow g.I.IntDomain.OpGives g.I.IntDomain.OpOneGives g.I.IntDomain.ToGives g.I.IntDomain.KeepGives g.I.IntDomain.members_of) c.args.here.now.context) c.args.args.now c.loop-e.sets.items c.loop-e.e-index c.e-item.result _ c.loop-e-test.true c.e-item.is c.loop-e.invariant
    (subst (IsValIn (domain g.I.Concrete.Has g.I.Lattice.IsBelow g.I.IntDomain.OpGives g.I.IntDomain.OpOneGives g.I.IntDomain.ToGives g.I.IntDomain.KeepGives g.I.IntDomain.members_of) c.args.here.now.context c.e-item.result) (sym c.in_ok-set.ensures) c.in_ok-value.ensures.value))

pub returns : goal.returns
returns g c =
    subst (λ es. AllZip (IsValIn (domain g.I.Concrete.Has g.I.Lattice.IsBelow g.I.IntDomain.OpGives g.I.IntDomain.OpOneGives g.I.IntDomain.ToGives g.I.IntDomain.KeepGives g.I.IntDomain.members_of) c.args.here.now.context) es c.loop-e.sets.items) (take_all c.loop-e.e-index c.args.args.now (omega arith)) c.loop-e.invariant
