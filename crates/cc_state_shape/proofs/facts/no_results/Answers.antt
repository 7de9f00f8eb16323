use Rattle.std.proofs.Common.{Bool, subst}
use Rattle.cc_state_shape.proofs.Lowering.{zip_next}
use Rattle.cc_state_shape.proofs.facts.no_results.Goals as goal
use Rattle.cc_state_shape.specs.Empty.{IsNone}
use Rattle.cc_state_shape.specs.Lowest.{IsNoneOfResult}

pub loop-func-preserved : goal.loop-func-preserved
loop-func-preserved g c =
    rw c.in_ok-push.ensures.items
    (zip_next (IsNoneOfResult g.I.Concrete.Has) c.args.funcs.now c.loop-func.sets.items c.loop-func.func-index c.func-item.result c.none_of.result c.loop-func-test.true c.func-item.is c.loop-func.invariant
    (subst (λ (b : Bool). IsNone g.I.Concrete.Has b c.none_of.result) c.holds_addresses.ensures c.none_of.ensures))
