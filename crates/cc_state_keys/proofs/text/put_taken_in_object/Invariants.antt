use Rattle.std.proofs.Common.{◌≡◌, ◌++◌, take}
use Rattle.std.specs.List.{flat_map}
use Rattle.cc_state_keys.specs.Addressed.{taken_in_leaf}
use Rattle.cc_state_keys.proofs.text.put_taken_in_object.Given as goal

abbrev pub invariant-loop-leaf : goal.invariant-loop-leaf
invariant-loop-leaf l = l.keys.items ≡ l.fn.keys.items ++ flat_map (taken_in_leaf l.p) (take l.leaf-index l.leaf-items)
