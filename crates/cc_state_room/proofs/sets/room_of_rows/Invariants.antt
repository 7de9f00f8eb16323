use Rattle.std.proofs.Common.{◌≡◌, ◌≤◌, ◌*◌, ◌^◌, take}
use Rattle.cc_state_room.specs.Room.{room_of_rows}
use Rattle.cc_state_room.proofs.sets.room_of_rows.Given as goal

abbrev pub invariant-loop-row : goal.invariant-loop-row
invariant-loop-row g l = (l.total ≡ room_of_rows l.most g.I.IntDomain.room_of (take l.row-index l.rows)) × (l.total ≤ 2 ^ 74 * l.row-index)
