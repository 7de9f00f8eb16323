use Rattle.std.proofs.Common.{arith}
use Rattle.cc_state_points.specs.CcStateFacts.declared.facts.Key.TheVariants as key
use Rattle.cc_slots.specs.Keys.{is_object_slot}
use Rattle.cc_state_points.specs.CcStateKeys.Lists.{made_from}
use Rattle.cc_state_points.proofs.CcStateKeys.Grown.{made_grown, whole}
use Rattle.cc_slots.proofs.keys.put_objects.Goals as goal

pub loop-i-preserved : goal.loop-i-preserved
loop-i-preserved c =
    made_grown is_object_slot key.Object c.args.keys.now.items c.loop-i.keys.items c.put_if.new.keys.items c.all-object-items.result.now c.loop-i.i c.object-item.result c.is_object_slot.result
    c.loop-i.invariant c.in_ok-put_if.ensures c.is_object_slot.ensures c.loop-i-test.true c.object-item.is

pub returns : goal.returns
returns c =
    whole (made_from is_object_slot key.Object 0) c.args.keys.now.items c.loop-i.keys.items c.all-object-items.result.now c.args.p.now.objects c.loop-i.i c.loop-i.invariant (omega (arith, c.loop-i-test.false)) c.all-object-items.ensures
