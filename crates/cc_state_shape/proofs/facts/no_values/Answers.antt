use Rattle.std.proofs.Common.{Bool, subst}
use Rattle.cc_state_shape.proofs.Lowering.{zip_more}
use Rattle.cc_state_shape.proofs.facts.no_values.Goals as goal
use Rattle.cc_state_shape.specs.Empty.{IsNone}
use Rattle.cc_state_shape.specs.Lowest.{IsNoneOfKey}

pub loop-key-preserved : goal.loop-key-preserved
loop-key-preserved g c =
    rw c.in_ok-push.ensures.items
    (zip_more (IsNoneOfKey g.I.Concrete.Has c.args.p.now) c.args.keys.now c.loop-key.sets.items c.loop-key.key-index _ c.none_of.result c.loop-key-test.true c.loop-key.invariant
    (subst (λ (b : Bool). IsNone g.I.Concrete.Has b c.none_of.result) c.key_addresses_of.ensures c.none_of.ensures))
