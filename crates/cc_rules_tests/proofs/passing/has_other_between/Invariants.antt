use Rattle.std.proofs.Common.{pos, ◌+ℤ◌}
use Rattle.cc_rules_tests.proofs.Following.{IsPassed, how_far}
use Rattle.cc_rules_tests.proofs.passing.has_other_between.Given as goal

abbrev pub invariant-loop-next : goal.invariant-loop-next
invariant-loop-next l = IsPassed l.low l.others l.next

abbrev pub decreases-loop-next : goal.decreases-loop-next
decreases-loop-next l = how_far l.next (l.high +ℤ pos 1)
