-- One more empty set, of the next kind.
use Rattle.std.proofs.Common.{arith, true, false, List, [], ◌∷◌, ◌++◌, append_assoc, append-nil, sym, ap, subst, ◌∙◌}
use Rattle.std.specs.List.{AllZip}
use Rattle.std.proofs.lemmas.List.{take_all}
use Rattle.cc_rules_asked.specs.CcPlaces.declared.abs.Abs.{Abs}
use Rattle.cc_rules_raised.proofs.completed.put_nones.Goals as goal
use Rattle.cc_state_shape.proofs.Lowering.{zip_more}
use Rattle.cc_state_shape.specs.Empty.{IsNone}

pub of_kind-requires : goal.of_kind-requires
of_kind-requires g c = record {
  integers = subst (IsNone g.I.Concrete.Has false) (sym c.in_ok-integers.ensures) c.none_of-no_integer.ensures;
  addresses = subst (IsNone g.I.Concrete.Has true) (sym c.in_ok-addresses.ensures) c.none_of-no_address.ensures;
}

pub loop-kind-init : goal.loop-kind-init
loop-kind-init g c = ([], sym (append-nil c.args.sets.now.items), tt)

pub loop-kind-preserved : goal.loop-kind-preserved
loop-kind-preserved g c =
    let so_far = c.loop-kind.invariant in
    let y = c.in_ok-none.none in (
      so_far.0 ++ y ∷ [],
      c.in_ok-push.ensures.items ∙ (ap (λ (ls : List (Abs g.row.I.Denot)). ls ++ y ∷ []) so_far.1 ∙ append_assoc c.args.sets.now.items so_far.0 (y ∷ [])),
      zip_more (IsNone g.I.Concrete.Has) c.args.kinds.now so_far.0 c.loop-kind.kind-index _ y c.loop-kind-test.true so_far.2 c.in_ok-none.ensures,
    )

pub returns : goal.returns
returns g c =
    let so_far = c.loop-kind.invariant in
    (so_far.0, so_far.1, subst (λ kinds. AllZip (IsNone g.I.Concrete.Has) kinds so_far.0) (take_all c.loop-kind.kind-index c.args.kinds.now (omega arith)) so_far.2)
