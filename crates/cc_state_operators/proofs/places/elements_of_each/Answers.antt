-- Each address adds those of the elements; at the end these are all.
use Rattle.std.proofs.Common.{arith}
use Rattle.cc_eval.specs.CcTyped.View.{place_view}
use Rattle.cc_places.specs.laws.ListLaws.{all_taken}
use Rattle.cc_state_operators.specs.Addresses.{IsElement}
use Rattle.cc_state_operators.proofs.Sets.{from_none, from_more, from_all}
use Rattle.cc_state_operators.proofs.places.elements_of_each.Goals as goal

pub loop-member-init : goal.loop-member-init
loop-member-init g c = from_none (IsElement c.args.p.now (place_view c.args.t) (g.I.Concrete.Has c.args.subscripts.now)) c.none-all.result c.none-all.ensures.exact c.none-all.ensures.members

pub loop-member-preserved : goal.loop-member-preserved
loop-member-preserved g c =
    from_more (IsElement c.args.p.now (place_view c.args.t) (g.I.Concrete.Has c.args.subscripts.now)) c.loop-member.all c.in_ok-all.all c.args.members.now c.loop-member.member-index c.member-item.result
    (omega (arith, c.loop-member-test.true)) c.member-item.is c.loop-member.invariant c.in_ok-all.ensures

pub returns : goal.returns
returns g c =
    from_all (IsElement c.args.p.now (place_view c.args.t) (g.I.Concrete.Has c.args.subscripts.now)) c.args.members.now c.loop-member.member-index c.loop-member.all
    (all_taken c.args.members.now c.loop-member.member-index (omega (arith, c.loop-member-test.false))) c.loop-member.invariant
