use Rattle.cc_rules_again.specs.Again.{point_readers}
use Rattle.cc_rules_readers.proofs.Rules.{put_each}
use Rattle.cc_rules_readers.proofs.points.put_next_readers.Goals as goal

pub loop-point-preserved : goal.loop-point-preserved
loop-point-preserved c =
    put_each (point_readers c.args.rules.now.program.now) c.args.next.now c.loop-point.point-index 0 c.args.list.now.items c.loop-point.list.items c.put_point_readers.new.list.items c.loop-point-test.true c.loop-point.invariant c.in_ok-put_point_readers.ensures
