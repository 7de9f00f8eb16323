use Rattle.std.proofs.Common.{◌≡◌, take}
use Rattle.cc_slots.specs.Judged.{is_reached_read, points_of}
use Rattle.cc_slots.proofs.judged.reads.Given as goal

abbrev pub invariant-loop-access : goal.invariant-loop-access
invariant-loop-access l = l.points.items ≡ points_of is_reached_read (take l.access-index l.accesses)
