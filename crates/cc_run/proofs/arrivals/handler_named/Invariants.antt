use Rattle.cc_run.proofs.HandlerLemmas.{LooksOn}
use Rattle.cc_run.proofs.arrivals.handler_named.Given as goal

abbrev pub invariant-loop-place : goal.invariant-loop-place
invariant-loop-place l = LooksOn l.name l.funcs l.place
