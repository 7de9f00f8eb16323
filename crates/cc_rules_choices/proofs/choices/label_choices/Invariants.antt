use Rattle.std.proofs.Common.{◌≡◌, ◌++◌, drop}
use Rattle.cc_rules_choices.specs.Choices.{choices_of}
use Rattle.cc_rules_flows.specs.Nexts.{case_tests}
use Rattle.cc_rules_choices.proofs.choices.label_choices.Given as goal

abbrev pub invariant-loop-at : goal.invariant-loop-at
invariant-loop-at l = choices_of l.all.items ++ case_tests l.constants (drop l.at l.cases) (drop l.at l.starts) ≡ case_tests l.constants l.cases l.starts
