use Rattle.std.proofs.Common.{◌≡◌, ◌++◌, take}
use Rattle.std.specs.List.{flat_map}
use Rattle.cc_state_keys.specs.Addressed.{taken_in_object}
use Rattle.cc_state_keys.proofs.text.put_taken_in_objects.Given as goal

abbrev pub invariant-loop-object : goal.invariant-loop-object
invariant-loop-object l = l.keys.items ≡ l.fn.keys.items ++ flat_map (taken_in_object l.p) (take l.object-index l.object-items)
