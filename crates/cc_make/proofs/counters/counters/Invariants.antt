use Rattle.std.proofs.Common.{◌%◌, ◌^◌}
use Rattle.cc_make.proofs.DrawLemmas.{Drawn}
use Rattle.cc_make.proofs.counters.counters.Given as goal

abbrev pub invariant-loop-i : goal.invariant-loop-i
invariant-loop-i l = Drawn l.count (l.seed % (2 ^ 31)) l._i l.state l.made.items
