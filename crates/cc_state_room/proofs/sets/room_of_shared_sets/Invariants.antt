use Rattle.std.proofs.Common.{◌≡◌, ◌≤◌, ◌*◌, ◌^◌, take}
use Rattle.cc_state_room.specs.Room.{room_of_sets}
use Rattle.cc_state_room.proofs.sets.room_of_shared_sets.Given as goal

abbrev pub invariant-loop-set : goal.invariant-loop-set
invariant-loop-set g l = (l.total ≡ room_of_sets l.most g.I.IntDomain.room_of (take l.set-index l.sets)) × (l.total ≤ 2 ^ 70 * l.set-index)
