use Rattle.std.proofs.Common.{arith, subst}
use Rattle.cc_state_limits.proofs.Each.{each_more, each_of_all}
use Rattle.cc_state_limits.proofs.memory.held_shared.Goals as goal
use Rattle.cc_state_limits.specs.Held.{IsHeldSet}

pub loop-set-preserved : goal.loop-set-preserved
loop-set-preserved g c = each_more IsHeldSet c.args.sets.now c.loop-set.set-index c.set-item.result c.loop-set-test.true c.set-item.is c.loop-set.invariant (subst IsHeldSet c.get.ensures c.held_set.ensures)

pub returns : goal.returns
returns g c = each_of_all IsHeldSet c.args.sets.now c.loop-set.set-index (omega arith) c.loop-set.invariant
