use Rattle.std.proofs.Common.{◌≡◌, ◌++◌, take}
use Rattle.cc_slots.specs.Keys.{member_slots}
use Rattle.cc_state_points.specs.CcStateKeys.Lists.{all_from}
use Rattle.cc_slots.proofs.keys.put_all_members.Given as goal

abbrev pub invariant-loop-id : goal.invariant-loop-id
invariant-loop-id l = l.keys.items ≡ l.fn.keys.items ++ all_from member_slots 0 (take l.id l.structure-items)
