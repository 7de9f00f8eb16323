use Rattle.std.proofs.Common.{◌≡◌, true, take}
use Rattle.cc_places.specs.Order.{ascends}
use Rattle.cc_places.specs.Sets.{AreStarred}
use Rattle.cc_places.proofs.grow.places.Given as goal

abbrev pub invariant-loop-member : goal.invariant-loop-member
invariant-loop-member l = (ascends l.places.items ≡ true) × AreStarred (take l.member-index l.members) l.places.items
