use Rattle.std.proofs.Common.{◌≡◌, ◌++◌, take}
use Rattle.cc_rules_calls.specs.Backs.{points_behind}
use Rattle.cc_rules_calls.proofs.backs.put_points.Given as goal

abbrev pub invariant-loop-k : goal.invariant-loop-k
invariant-loop-k g l = l.asked.items ≡ l.initial.asked.items ++ points_behind (take l.k-index l.next) l.registers l.flow
