use Rattle.std.proofs.Common.{◌≡◌, ◌++◌, take}
use Rattle.std.specs.List.{flat_map}
use Rattle.cc_rules_again.specs.Again.{point_readers}
use Rattle.cc_rules_readers.proofs.points.put_next_readers.Given as goal

abbrev pub invariant-loop-point : goal.invariant-loop-point
invariant-loop-point l = l.list.items ≡ l.initial.list.items ++ flat_map (point_readers l.rules.program.now) (take l.point-index l.next)
