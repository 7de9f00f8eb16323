use Rattle.std.proofs.Common.{◌≡◌, ◌+◌, drop}
use Rattle.cc_rules_readers.specs.Points.{count_below}
use Rattle.cc_rules_readers.proofs.lists.count_before.Given as goal

abbrev pub invariant-loop-i : goal.invariant-loop-i
invariant-loop-i l = l.i + count_below l.point (drop l.i l.points) ≡ count_below l.point l.points
