use Rattle.std.proofs.Common.{◌≡◌, ◌++◌, take}
use Rattle.std.specs.List.{flat_map}
use Rattle.cc_unit.specs.Mentioned.{in_leaf}
use Rattle.cc_unit.proofs.mentions.put_leaves.Given as goal

abbrev pub invariant-loop-leaf : goal.invariant-loop-leaf
invariant-loop-leaf l = l.numbers.items ≡ l.initial.numbers.items ++ flat_map in_leaf (take l.leaf-index l.leaves)
