-- Each other pointer adds what it gives; at the end these are all.
use Rattle.std.proofs.Common.{Some, ap, sym, ◌∙◌, arith}
use Rattle.cc_program.specs.declared.value.Value.TheVariants.{Place}
use Rattle.cc_places.specs.laws.ListLaws.{all_taken}
use Rattle.cc_state_operators.specs.Domains.{domain}
use Rattle.cc_state_operators.specs.Operands.{related_type}
use Rattle.cc_state_operators.proofs.Hulls.{order_of, from_none}
use Rattle.cc_state_operators.proofs.Images.{no_others, each_more, each_done, related_number, related_value}
use Rattle.cc_state_operators.proofs.pairs.with_each.Goals as goal

pub loop-other-init : goal.loop-other-init
loop-other-init g c =
    let d = domain g.I.Concrete.Has g.I.Lattice.IsBelow g.I.IntDomain.OpGives g.I.IntDomain.OpOneGives g.I.IntDomain.ToGives g.I.IntDomain.KeepGives g.I.IntDomain.members_of in
    (from_none d g.I.Lattice.AreAlike g.met.I.IntDomain.all_alike (order_of d g.I.Lattice.AreAlike g.met.I.IntDomain.all_alike g.met.I.Lattice.below_itself g.met.I.Lattice.below_through g.met.I.IntDomain.below_has) _ c.args.set (no_others d g.I.Lattice.AreAlike g.met.I.IntDomain.all_alike (order_of d g.I.Lattice.AreAlike g.met.I.IntDomain.all_alike g.met.I.Lattice.below_itself g.met.I.Lattice.below_through g.met.I.IntDomain.below_has) c.args.relation c.args.target.now c.args.p.now), λ h. h)

pub with_number-requires : goal.with_number-requires
with_number-requires g c = λ n e. related_number c.args.relation c.args.target.now c.args.p.now _ c.related.result n c.related.ensures e

pub loop-other-preserved : goal.loop-other-preserved
loop-other-preserved g c =
    let d = domain g.I.Concrete.Has g.I.Lattice.IsBelow g.I.IntDomain.OpGives g.I.IntDomain.OpOneGives g.I.IntDomain.ToGives g.I.IntDomain.KeepGives g.I.IntDomain.members_of in
    let t = related_type c.args.relation c.args.target.now in (
      each_more d g.I.Lattice.AreAlike g.met.I.IntDomain.all_alike (order_of d g.I.Lattice.AreAlike g.met.I.IntDomain.all_alike g.met.I.Lattice.below_itself g.met.I.Lattice.below_through g.met.I.IntDomain.below_has) c.args.relation c.args.target.now c.args.p.now _ c.related.result c.args.others.now c.loop-other.other-index c.other-item.result
          c.args.set c.loop-other.all c.in_ok-all.all (omega (arith, c.loop-other-test.true)) c.other-item.is (ap (λ a. Some (Place a)) c.in_ok-copy.ensures) c.related.ensures
          c.loop-other.invariant.0 c.in_ok-all.ensures.hull,
      λ h. c.in_ok-all.ensures.typed t c.args.target.now (c.loop-other.invariant.1 h) (λ n e. related_value c.args.relation c.args.target.now c.args.p.now _ n (sym c.related.ensures ∙ e)),
    )

pub returns-clause-hull : goal.returns-clause-hull
returns-clause-hull g c =
    let d = domain g.I.Concrete.Has g.I.Lattice.IsBelow g.I.IntDomain.OpGives g.I.IntDomain.OpOneGives g.I.IntDomain.ToGives g.I.IntDomain.KeepGives g.I.IntDomain.members_of in
    each_done d g.I.Lattice.AreAlike g.met.I.IntDomain.all_alike (order_of d g.I.Lattice.AreAlike g.met.I.IntDomain.all_alike g.met.I.Lattice.below_itself g.met.I.Lattice.below_through g.met.I.IntDomain.below_has) c.args.relation c.args.target.now c.args.p.now c.args.others.now c.loop-other.other-index c.args.set c.loop-other.all
    (all_taken c.args.others.now c.loop-other.other-index (omega (arith, c.loop-other-test.false))) c.loop-other.invariant.0

pub returns-clause-typed : goal.returns-clause-typed
returns-clause-typed g c = c.loop-other.invariant.1
