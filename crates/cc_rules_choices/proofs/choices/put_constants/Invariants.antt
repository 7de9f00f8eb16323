use Rattle.std.proofs.Common.{◌≡◌, ◌++◌, take}
use Rattle.cc_rules_flows.specs.Nexts.{constants}
use Rattle.cc_rules_choices.proofs.choices.put_constants.Given as goal

abbrev pub invariant-loop-label : goal.invariant-loop-label
invariant-loop-label l = l.all.items ≡ l.initial.all.items ++ constants (take l.label-index l.labels)
