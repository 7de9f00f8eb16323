use Rattle.std.proofs.Common.{◌≡◌}
use Rattle.cases_facts.proofs.runs.write_run.Given as goal

abbrev pub invariant-loop-turn : goal.invariant-loop-turn
invariant-loop-turn g l = l.m.program.now ≡ l.p
