use Rattle.std.proofs.Common.{◌≡◌, ◌≤◌, take}
use Rattle.cc_state_room.specs.Room.{room_of_marks}
use Rattle.cc_state_room.proofs.marks.room_of_marks.Given as goal

abbrev pub invariant-loop-mark : goal.invariant-loop-mark
invariant-loop-mark l = (l.total ≡ room_of_marks (take l.mark-index l.marks)) × (l.total ≤ l.mark-index)
