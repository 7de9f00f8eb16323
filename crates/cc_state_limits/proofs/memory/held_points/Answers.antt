use Rattle.std.proofs.Common.{arith}
use Rattle.cc_state_limits.proofs.Each.{each_more, each_of_all}
use Rattle.cc_state_limits.proofs.memory.held_points.Goals as goal
use Rattle.cc_state_limits.specs.Held.{IsHeldKnown}

pub loop-known-preserved : goal.loop-known-preserved
loop-known-preserved g c = each_more IsHeldKnown c.args.at.now c.loop-known.known-index c.known-item.result c.loop-known-test.true c.known-item.is c.loop-known.invariant c.held_known.ensures

pub returns : goal.returns
returns g c = each_of_all IsHeldKnown c.args.at.now c.loop-known.known-index (omega arith) c.loop-known.invariant
