use Rattle.std.proofs.Common.{◌≡◌, map, take}
use Rattle.cc_unit.specs.Renumbered.{leaf_renumbered}
use Rattle.cc_relocation.proofs.parts.relocated_leaves.Given as goal

abbrev pub invariant-loop-leaf : goal.invariant-loop-leaf
invariant-loop-leaf l = l.relocated.items ≡ map (λ leaf. leaf_renumbered l.ids leaf) (take l.leaf-index l.init)
