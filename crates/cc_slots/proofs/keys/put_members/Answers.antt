use Rattle.std.proofs.Common.{arith}
use Rattle.cc_state_points.specs.CcStateFacts.declared.facts.Key.TheVariants as key
use Rattle.cc_slots.specs.Keys.{is_member_slot}
use Rattle.cc_state_points.specs.CcStateKeys.Lists.{made_from}
use Rattle.cc_state_points.proofs.CcStateKeys.Grown.{made_grown, whole}
use Rattle.cc_slots.proofs.keys.put_members.Goals as goal

pub loop-m-preserved : goal.loop-m-preserved
loop-m-preserved c =
    made_grown (is_member_slot c.args.id) (key.Member c.args.id) c.args.keys.now.items c.loop-m.keys.items c.put_if.new.keys.items c.all-member-items.result.now c.loop-m.m c.member-item.result c.is_member_slot.result
    c.loop-m.invariant c.in_ok-put_if.ensures c.is_member_slot.ensures c.loop-m-test.true c.member-item.is

pub returns : goal.returns
returns c =
    whole (made_from (is_member_slot c.args.id) (key.Member c.args.id) 0) c.args.keys.now.items c.loop-m.keys.items c.all-member-items.result.now c.args.s.now.members c.loop-m.m
    c.loop-m.invariant (omega (arith, c.loop-m-test.false)) c.all-member-items.ensures
