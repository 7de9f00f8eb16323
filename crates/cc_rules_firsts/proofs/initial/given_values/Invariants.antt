use Rattle.std.proofs.Common.{◌≡◌, map, take}
use Rattle.cc_rules_asked.specs.CcSteps.State.{first_value}
use Rattle.cc_rules_firsts.proofs.initial.given_values.Given as goal

abbrev pub invariant-loop-leaf : goal.invariant-loop-leaf
invariant-loop-leaf l = l.values.items ≡ map first_value (take l.leaf-index l.leaves)
