use Rattle.std.proofs.Common.{◌≡◌, ◌++◌, take}
use Rattle.cc_make.specs.Source.{each_from, function}
use Rattle.cc_make.proofs.source.put_functions.Given as goal

abbrev pub invariant-loop-number : goal.invariant-loop-number
invariant-loop-number l = l.text.items ≡ l.initial.text.items ++ each_from (λ number counter. function number counter.limit) 0 (take l.number l.counters)
