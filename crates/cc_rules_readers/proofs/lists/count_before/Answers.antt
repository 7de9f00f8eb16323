use Rattle.std.proofs.Common.{arith}
use Rattle.cc_rules_readers.proofs.Counting.{counted_on}
use Rattle.cc_rules_readers.proofs.lists.count_before.Goals as goal

pub loop-i-preserved : goal.loop-i-preserved
loop-i-preserved c = counted_on c.args.point c.args.points.now c.loop-i.i c.loop-i-test.true (omega arith) c.loop-i.invariant
