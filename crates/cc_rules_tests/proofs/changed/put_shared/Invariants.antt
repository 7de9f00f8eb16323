use Rattle.std.proofs.Common.{◌≡◌, ◌++◌, take}
use Rattle.cc_rules_tests.proofs.changed.put_shared.Given as goal

abbrev pub invariant-loop-set : goal.invariant-loop-set
invariant-loop-set g l = l.all.items ≡ l.initial.all.items ++ take l.set-index l.sets
