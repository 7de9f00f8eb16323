use Rattle.std.proofs.Common.{◌≤◌, ◌-◌, length}
use Rattle.cc_bins.specs.Search.{room_at}
use Rattle.cc_bins.proofs.placing.first_with_room.Given as goal

abbrev pub invariant-loop-at : goal.invariant-loop-at
invariant-loop-at l = l.at ≤ room_at l.want l.words

abbrev pub decreases-loop-at : goal.decreases-loop-at
decreases-loop-at l = length l.words - l.at
