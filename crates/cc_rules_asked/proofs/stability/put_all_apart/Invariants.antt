use Rattle.std.proofs.Common.{◌≡◌, ◌++◌}
use Rattle.std.specs.List.{flat_map}
use Rattle.cc_rules_asked.specs.Unstable.{parts_apart}
use Rattle.cc_rules.specs.CcRulesNeeds.Flowing.{numbers}
use Rattle.cc_rules_asked.proofs.stability.put_all_apart.Given as goal

abbrev pub invariant-loop-register : goal.invariant-loop-register
invariant-loop-register g l = l.asked.items ≡ l.initial.asked.items ++ flat_map (parts_apart l.number l.cells) (numbers 0 l.register)
