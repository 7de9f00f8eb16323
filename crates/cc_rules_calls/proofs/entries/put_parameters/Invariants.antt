use Rattle.std.proofs.Common.{◌≡◌, ◌++◌, take}
use Rattle.cc_rules_calls.specs.Here.{parts_whole}
use Rattle.cc_rules_calls.proofs.entries.put_parameters.Given as goal

abbrev pub invariant-loop-r : goal.invariant-loop-r
invariant-loop-r g l = l.asked.items ≡ l.initial.asked.items ++ parts_whole l.p l.function 0 (take l.r l.sets)
