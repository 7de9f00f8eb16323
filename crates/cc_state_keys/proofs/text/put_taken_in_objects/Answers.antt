use Rattle.std.proofs.Common.{arith}
use Rattle.std.specs.List.{flat_map}
use Rattle.cc_state_keys.specs.Addressed.{taken_in_object}
use Rattle.cc_state_keys.proofs.Grown.{flat_grown, whole}
use Rattle.cc_state_keys.proofs.text.put_taken_in_objects.Goals as goal

pub loop-object-preserved : goal.loop-object-preserved
loop-object-preserved c =
    flat_grown (taken_in_object c.args.p.now) c.args.keys.now.items c.loop-object.keys.items c.put_taken_in_object.new.keys.items c.all-object-items.result.now c.loop-object.object-index c.object-item.result
    c.loop-object.invariant c.in_ok-put_taken_in_object.ensures c.loop-object-test.true c.object-item.is

pub returns : goal.returns
returns c =
    whole (flat_map (taken_in_object c.args.p.now)) c.args.keys.now.items c.loop-object.keys.items c.all-object-items.result.now c.args.p.now.objects c.loop-object.object-index
    c.loop-object.invariant (omega (arith, c.loop-object-test.false)) c.all-object-items.ensures
