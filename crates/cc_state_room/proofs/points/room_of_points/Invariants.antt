use Rattle.std.proofs.Common.{◌≡◌, ◌≤◌, ◌*◌, ◌^◌, take}
use Rattle.cc_state_room.specs.Room.{room_of_points}
use Rattle.cc_state_room.proofs.points.room_of_points.Given as goal

abbrev pub invariant-loop-known : goal.invariant-loop-known
invariant-loop-known g l = (l.total ≡ room_of_points l.most g.I.IntDomain.room_of (take l.known-index l.at)) × (l.total ≤ 2 ^ 100 * l.known-index)
