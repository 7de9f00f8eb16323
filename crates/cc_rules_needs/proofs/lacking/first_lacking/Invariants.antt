use Rattle.std.proofs.Common.{take}
use Rattle.cc_rules_needs.specs.Needs.{HasAll}
use Rattle.cc_rules_needs.proofs.lacking.first_lacking.Given as goal

abbrev pub invariant-loop-k : goal.invariant-loop-k
invariant-loop-k g l = HasAll g.I.Lattice.IsBelow (take l.k l.needs) l.facts
