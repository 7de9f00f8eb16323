use Rattle.std.proofs.Common.{◌≡◌, ◌+◌, length}
use Rattle.cc_places.specs.Members.{place_of}
use Rattle.cc_places.proofs.members.place_of.Given as goal

abbrev pub invariant-loop-left : goal.invariant-loop-left
invariant-loop-left l = (l.count + length l.left ≡ length l.members) × (place_of l.a l.members ≡ l.count + place_of l.a l.left)

abbrev pub decreases-loop-left : goal.decreases-loop-left
decreases-loop-left l = length l.left
