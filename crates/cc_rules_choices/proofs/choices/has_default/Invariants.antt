use Rattle.std.proofs.Common.{◌≡◌, false, take}
use Rattle.cc_rules_flows.specs.Nexts.{has_default}
use Rattle.cc_rules_choices.proofs.choices.has_default.Given as goal

abbrev pub invariant-loop-case : goal.invariant-loop-case
invariant-loop-case l = has_default (take l.case-index l.cases) ≡ false
