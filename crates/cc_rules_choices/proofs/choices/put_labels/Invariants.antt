use Rattle.std.proofs.Common.{◌≡◌, ◌++◌, ℤ, Option, map, take}
use Rattle.cc_rules_choices.specs.Choices.{choices_of}
use Rattle.cc_rules_flows.specs.Nexts.{label_test}
use Rattle.cc_rules_choices.proofs.choices.put_labels.Given as goal

abbrev pub invariant-loop-label : goal.invariant-loop-label
invariant-loop-label l = choices_of l.all.items ≡ choices_of l.initial.all.items ++ map (λ (label : Option ℤ). (label_test l.constants label, l.point)) (take l.label-index l.labels)
