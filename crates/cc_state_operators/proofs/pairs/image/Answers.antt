-- Each pointer adds what it gives with the others; at the end these are all.
use Rattle.std.proofs.Common.{Some, ap, arith}
use Rattle.cc_program.specs.declared.value.Value.TheVariants.{Place}
use Rattle.cc_places.specs.laws.ListLaws.{all_taken}
use Rattle.cc_state_operators.specs.Domains.{domain}
use Rattle.cc_state_operators.specs.Operands.{related_type}
use Rattle.cc_state_operators.proofs.Hulls.{order_of, hull_none, none_typed}
use Rattle.cc_state_operators.proofs.Images.{no_pairs, pairs_more, pairs_done}
use Rattle.cc_state_operators.proofs.pairs.image.Goals as goal

pub loop-member-init : goal.loop-member-init
loop-member-init g c =
    let d = domain g.I.Concrete.Has g.I.Lattice.IsBelow g.I.IntDomain.OpGives g.I.IntDomain.OpOneGives g.I.IntDomain.ToGives g.I.IntDomain.KeepGives g.I.IntDomain.members_of in (
      hull_none d _ c.none-all.result (no_pairs d g.I.Lattice.AreAlike g.met.I.IntDomain.all_alike (order_of d g.I.Lattice.AreAlike g.met.I.IntDomain.all_alike g.met.I.Lattice.below_itself g.met.I.Lattice.below_through g.met.I.IntDomain.below_has) c.args.relation c.args.target.now c.args.others.now) c.none-all.ensures.least,
      none_typed d (related_type c.args.relation c.args.target.now) c.args.target.now c.none-all.result c.none-all.ensures.empty,
    )

pub loop-member-preserved : goal.loop-member-preserved
loop-member-preserved g c =
    let d = domain g.I.Concrete.Has g.I.Lattice.IsBelow g.I.IntDomain.OpGives g.I.IntDomain.OpOneGives g.I.IntDomain.ToGives g.I.IntDomain.KeepGives g.I.IntDomain.members_of in (
      pairs_more d g.I.Lattice.AreAlike g.met.I.IntDomain.all_alike (order_of d g.I.Lattice.AreAlike g.met.I.IntDomain.all_alike g.met.I.Lattice.below_itself g.met.I.Lattice.below_through g.met.I.IntDomain.below_has) c.args.relation c.args.target.now _ c.args.members.now c.args.others.now c.loop-member.member-index c.member-item.result
          c.loop-member.all c.in_ok-all.all (omega (arith, c.loop-member-test.true)) c.member-item.is (ap (λ a. Some (Place a)) c.in_ok-copy.ensures)
          c.loop-member.invariant.0 c.in_ok-all.ensures.hull,
      c.in_ok-all.ensures.typed c.loop-member.invariant.1,
    )

pub returns-clause-hull : goal.returns-clause-hull
returns-clause-hull g c =
    let d = domain g.I.Concrete.Has g.I.Lattice.IsBelow g.I.IntDomain.OpGives g.I.IntDomain.OpOneGives g.I.IntDomain.ToGives g.I.IntDomain.KeepGives g.I.IntDomain.members_of in
    pairs_done d g.I.Lattice.AreAlike g.met.I.IntDomain.all_alike (order_of d g.I.Lattice.AreAlike g.met.I.IntDomain.all_alike g.met.I.Lattice.below_itself g.met.I.Lattice.below_through g.met.I.IntDomain.below_has) c.args.relation c.args.target.now c.args.members.now c.args.others.now c.loop-member.member-index c.loop-member.all
    (all_taken c.args.members.now c.loop-member.member-index (omega (arith, c.loop-member-test.false))) c.loop-member.invariant.0

pub returns-clause-typed : goal.returns-clause-typed
returns-clause-typed g c = c.loop-member.invariant.1
