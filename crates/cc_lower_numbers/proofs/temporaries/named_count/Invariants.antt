use Rattle.std.proofs.Common.{◌≡◌, take}
use Rattle.cc_lower_numbers.specs.Temporaries.{named_count}
use Rattle.cc_lower_numbers.proofs.temporaries.named_count.Given as goal

abbrev pub invariant-loop-local : goal.invariant-loop-local
invariant-loop-local l = record { at : l.position ≡ l.local-index; done : l.count ≡ named_count (take l.local-index l.locals) }
