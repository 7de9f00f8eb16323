use Rattle.std.proofs.Common.{◌≡◌, ◌++◌, take}
use Rattle.cc_make.specs.Source.{each_from, variable}
use Rattle.cc_make.proofs.source.put_variables.Given as goal

abbrev pub invariant-loop-number : goal.invariant-loop-number
invariant-loop-number l = l.text.items ≡ l.initial.text.items ++ each_from (λ number counter. variable number) 0 (take l.number l.counters)
