use Rattle.std.proofs.Common.{arith}
use Rattle.cc_state_facts.specs.declared.facts.Key.TheVariants as key
use Rattle.cc_state_keys.specs.Keys.{has_object_key}
use Rattle.cc_state_keys.specs.Lists.{made_from}
use Rattle.cc_state_keys.proofs.Grown.{made_grown, whole}
use Rattle.cc_state_keys.proofs.listed.put_objects.Goals as goal

pub loop-i-preserved : goal.loop-i-preserved
loop-i-preserved c =
    made_grown has_object_key key.Object c.args.keys.now.items c.loop-i.keys.items c.put_if.new.items.items c.all-object-items.result.now c.loop-i.i c.object-item.result c.are_scalars.result
    c.loop-i.invariant c.in_ok-put_if.ensures c.are_scalars.ensures c.loop-i-test.true c.object-item.is

pub returns : goal.returns
returns c =
    whole (made_from has_object_key key.Object 0) c.args.keys.now.items c.loop-i.keys.items c.all-object-items.result.now c.args.p.now.objects c.loop-i.i c.loop-i.invariant (omega (arith, c.loop-i-test.false)) c.all-object-items.ensures
