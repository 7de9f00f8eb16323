-- Each address adds that of the member; at the end these are all.
use Rattle.std.proofs.Common.{◌≡◌, Some, arith}
use Rattle.cc_eval.specs.CcTyped.View.{place_view}
use Rattle.cc_places.specs.laws.ListLaws.{all_taken}
use Rattle.cc_program.specs.declared.value.Address.{Address}
use Rattle.cc_state_operators.specs.Addresses.{member_address}
use Rattle.cc_state_operators.proofs.Sets.{from_none, from_more, from_all}
use Rattle.cc_state_operators.proofs.places.members_of_each.Goals as goal

pub loop-member-init : goal.loop-member-init
loop-member-init c = from_none (λ (a b : Address). member_address c.args.p.now (place_view c.args.t) c.args.m a ≡ Some b) c.none-all.result c.none-all.ensures.exact c.none-all.ensures.members

pub loop-member-preserved : goal.loop-member-preserved
loop-member-preserved c =
    from_more (λ (a b : Address). member_address c.args.p.now (place_view c.args.t) c.args.m a ≡ Some b) c.loop-member.all c.in_ok-all.all c.args.members.now c.loop-member.member-index c.member-item.result
    (omega (arith, c.loop-member-test.true)) c.member-item.is c.loop-member.invariant c.in_ok-all.ensures

pub returns : goal.returns
returns c =
    from_all (λ (a b : Address). member_address c.args.p.now (place_view c.args.t) c.args.m a ≡ Some b) c.args.members.now c.loop-member.member-index c.loop-member.all
    (all_taken c.args.members.now c.loop-member.member-index (omega (arith, c.loop-member-test.false))) c.loop-member.invariant
