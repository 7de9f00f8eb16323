use Rattle.std.proofs.Common.{◌≡◌, map}
use Rattle.cc_rules_nexts.specs.Told.{point_told}
use Rattle.cc_rules_nexts.proofs.passing.points_told.Given as goal

abbrev pub invariant-loop-number : goal.invariant-loop-number
invariant-loop-number g l = l.asked.items ≡ map (point_told l.registers) l.yielded
