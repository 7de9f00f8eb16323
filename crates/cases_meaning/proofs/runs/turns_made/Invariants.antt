use Rattle.std.proofs.Common.{◌-◌}
use Rattle.cc_states.specs.CcSyntax.Sound.{IsSound}
use Rattle.cases_meaning.proofs.runs.turns_made.Given as goal

abbrev pub invariant-loop-turns : goal.invariant-loop-turns
invariant-loop-turns l = IsSound l.m.program.now

abbrev pub decreases-loop-turns : goal.decreases-loop-turns
decreases-loop-turns l = l.script.most - l.turns
