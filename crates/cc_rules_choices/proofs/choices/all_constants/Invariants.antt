use Rattle.std.proofs.Common.{◌≡◌, take}
use Rattle.cc_rules_flows.specs.Nexts.{all_constants}
use Rattle.cc_rules_choices.proofs.choices.all_constants.Given as goal

abbrev pub invariant-loop-case : goal.invariant-loop-case
invariant-loop-case l = l.all.items ≡ all_constants (take l.case-index l.cases)
