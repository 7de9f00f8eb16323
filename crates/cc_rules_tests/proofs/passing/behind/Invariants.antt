use Rattle.cc_rules_tests.proofs.Following.{IsBehindSoFar}
use Rattle.cc_rules_tests.proofs.passing.behind.Given as goal

abbrev pub invariant-loop-n : goal.invariant-loop-n
invariant-loop-n l = IsBehindSoFar l.fn.first l.numbers l.n-index l.next
