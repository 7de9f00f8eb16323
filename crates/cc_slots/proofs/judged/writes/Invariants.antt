use Rattle.std.proofs.Common.{◌≡◌, take}
use Rattle.cc_slots.specs.Judged.{is_reached_write, points_of}
use Rattle.cc_slots.proofs.judged.writes.Given as goal

abbrev pub invariant-loop-access : goal.invariant-loop-access
invariant-loop-access l = l.points.items ≡ points_of is_reached_write (take l.access-index l.accesses)
