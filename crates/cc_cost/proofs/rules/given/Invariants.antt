use Rattle.cc_cost.specs.Keys.{spelling}
use Rattle.cc_cost.proofs.LineLemmas.{LooksOn}
use Rattle.cc_cost.proofs.rules.given.Given as goal

abbrev pub invariant-loop-line : goal.invariant-loop-line
invariant-loop-line l = LooksOn (spelling l.key) l.second l.lines l.line-index
