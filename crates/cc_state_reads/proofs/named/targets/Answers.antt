-- Each address adds its class; at the end these are all.
use Rattle.std.proofs.Common.{[], refl, arith}
use Rattle.std.specs.List.{flat_map}
use Rattle.cc_state_keys.proofs.Grown.{flat_grown, whole}
use Rattle.cc_state_reads.specs.Named.{target_class}
use Rattle.cc_state_reads.proofs.named.targets.Goals as goal

pub loop-member-preserved : goal.loop-member-preserved
loop-member-preserved c =
    flat_grown (target_class c.args.p.now) [] c.loop-member.classes.items c.put_target.new.classes.items c.args.members.now c.loop-member.member-index c.member-item.result
    c.loop-member.invariant c.in_ok-put_target.ensures c.loop-member-test.true c.member-item.is

pub returns : goal.returns
returns c =
    whole (flat_map (target_class c.args.p.now)) [] c.loop-member.classes.items c.args.members.now c.args.members.now c.loop-member.member-index
    c.loop-member.invariant (omega (arith, c.loop-member-test.false)) refl
