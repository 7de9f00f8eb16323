use Rattle.std.proofs.Common.{arith}
use Rattle.cc_state_facts.specs.declared.facts.Key.TheVariants as key
use Rattle.cc_state_keys.specs.Keys.{has_member_key}
use Rattle.cc_state_keys.specs.Lists.{made_from}
use Rattle.cc_state_keys.proofs.Grown.{made_grown, whole}
use Rattle.cc_state_keys.proofs.listed.put_members.Goals as goal

pub loop-m-preserved : goal.loop-m-preserved
loop-m-preserved c =
    made_grown has_member_key (key.Member c.args.id) c.args.keys.now.items c.loop-m.keys.items c.put_if.new.items.items c.all-member-items.result.now c.loop-m.m c.member-item.result c.are_scalars.result
    c.loop-m.invariant c.in_ok-put_if.ensures c.are_scalars.ensures c.loop-m-test.true c.member-item.is

pub returns : goal.returns
returns c =
    whole (made_from has_member_key (key.Member c.args.id) 0) c.args.keys.now.items c.loop-m.keys.items c.all-member-items.result.now c.args.s.now.members c.loop-m.m
    c.loop-m.invariant (omega (arith, c.loop-m-test.false)) c.all-member-items.ensures
