use Rattle.std.proofs.Common.{drop, map}
use Rattle.cc_run.specs.Arrivals.{written_of, arrivals_from}
use Rattle.cc_run.proofs.Coming.{Came}
use Rattle.cc_run.proofs.arrivals.arrivals_in.Given as goal

abbrev pub invariant-loop-line : goal.invariant-loop-line
invariant-loop-line l = Came (arrivals_from l.funcs 0 (map written_of l.lines)) l.arrivals.items (arrivals_from l.funcs l.last (map written_of (drop l.line-index l.lines)))
