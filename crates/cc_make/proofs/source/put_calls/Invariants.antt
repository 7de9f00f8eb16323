use Rattle.std.proofs.Common.{◌≡◌, ◌++◌, take}
use Rattle.cc_make.specs.Source.{each_from, call}
use Rattle.cc_make.proofs.source.put_calls.Given as goal

abbrev pub invariant-loop-number : goal.invariant-loop-number
invariant-loop-number l = l.text.items ≡ l.initial.text.items ++ each_from (λ number counter. call number) 0 (take l.number l.counters)
