use Rattle.std.proofs.Common.{◌≡◌, take}
use Rattle.std.specs.List.{filter}
use Rattle.cc_places.specs.Kept.{is_object}
use Rattle.cc_places.proofs.moved.objects.Given as goal

abbrev pub invariant-loop-member : goal.invariant-loop-member
invariant-loop-member l = l.places.items ≡ filter is_object (take l.member-index l.members)
