use Rattle.std.proofs.Common.{◌≡◌, ◌++◌, take}
use Rattle.cc_state_points.specs.CcStateFacts.declared.facts.Key.TheVariants as key
use Rattle.cc_slots.specs.Keys.{is_object_slot}
use Rattle.cc_state_points.specs.CcStateKeys.Lists.{made_from}
use Rattle.cc_slots.proofs.keys.put_objects.Given as goal

abbrev pub invariant-loop-i : goal.invariant-loop-i
invariant-loop-i l = l.keys.items ≡ l.fn.keys.items ++ made_from is_object_slot key.Object 0 (take l.i l.object-items)
