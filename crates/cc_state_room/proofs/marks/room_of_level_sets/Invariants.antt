use Rattle.std.proofs.Common.{◌≡◌, ◌≤◌, ◌*◌, take}
use Rattle.cc_state_room.specs.Room.{room_of_level_sets}
use Rattle.cc_state_room.proofs.marks.room_of_level_sets.Given as goal

abbrev pub invariant-loop-levels : goal.invariant-loop-levels
invariant-loop-levels l = (l.total ≡ room_of_level_sets (take l.levels-index l.sets)) × (l.total ≤ 255 * l.levels-index)
