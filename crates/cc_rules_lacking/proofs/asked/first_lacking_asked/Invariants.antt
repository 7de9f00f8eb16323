use Rattle.std.proofs.Common.{◌≡◌, length, take}
use Rattle.cc_program.specs.declared.program.Program.{Program}
use Rattle.cc_rules_asked.specs.Asked.{all_needs}
use Rattle.cc_rules_asked.specs.CcRulesNeeds.Needs.{HasAll}
use Rattle.cc_rules_lacking.proofs.asked.first_lacking_asked.Given as goal
use Rattle.cc_rules_asked.specs.CcStateKeys.Tracked.{tracked}

abbrev pub invariant-loop-one : goal.invariant-loop-one
invariant-loop-one g l = (p : Program) → length (tracked p) ≡ l.cells → HasAll g.I.Lattice.IsBelow (all_needs p (take l.one-index l.asked)) l.facts
