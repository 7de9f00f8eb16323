use Rattle.std.proofs.Common.{◌≤◌, ◌+◌, ◌-◌}
use Rattle.cc_names.specs.Holds.{AreTaken, FailUpTo}
use Rattle.cc_names.proofs.taken.free_number.Given as goal

abbrev pub invariant-loop-number : goal.invariant-loop-number
invariant-loop-number l = record {
  low : l.from ≤ l.number;
  behind : AreTaken l.from l.starts l.names → FailUpTo l.names l.base l.from l.number;
}

abbrev pub decreases-loop-number : goal.decreases-loop-number
decreases-loop-number l = l.end + 1 - l.number
