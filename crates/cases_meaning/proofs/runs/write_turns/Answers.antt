use Rattle.std.proofs.Common.{sym, subst, rules}
use Rattle.cc_states.specs.CcSyntax.Sound.{IsSound}
use Rattle.cases_meaning.proofs.runs.write_turns.Goals as goal

pub loop-turns-init : goal.loop-turns-init
loop-turns-init c = subst (λ p. IsSound p) (sym (search rules)) c.requires
