use Rattle.std.proofs.Common.{arith}
use Rattle.std.specs.List.{flat_map}
use Rattle.cc_state_keys.specs.Addressed.{taken_in_leaf}
use Rattle.cc_state_keys.proofs.Grown.{flat_grown, whole}
use Rattle.cc_state_keys.proofs.text.put_taken_in_object.Goals as goal

pub loop-leaf-preserved : goal.loop-leaf-preserved
loop-leaf-preserved c =
    flat_grown (taken_in_leaf c.args.p.now) c.args.keys.now.items c.loop-leaf.keys.items c.put_taken_in_leaf.new.keys.items c.all-leaf-items.result.now c.loop-leaf.leaf-index c.leaf-item.result
    c.loop-leaf.invariant c.in_ok-put_taken_in_leaf.ensures c.loop-leaf-test.true c.leaf-item.is

pub returns : goal.returns
returns c =
    whole (flat_map (taken_in_leaf c.args.p.now)) c.args.keys.now.items c.loop-leaf.keys.items c.all-leaf-items.result.now c.args.o.now.init c.loop-leaf.leaf-index
    c.loop-leaf.invariant (omega (arith, c.loop-leaf-test.false)) c.all-leaf-items.ensures
