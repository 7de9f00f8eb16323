use Rattle.std.proofs.Common.{◌⊎◌, take}
use Rattle.std.specs.List.{Contains}
use Rattle.cc_places.specs.Sets.{HasAddress, IsSetOf}
use Rattle.cc_places.proofs.grow.union.Given as goal

abbrev pub invariant-loop-member : goal.invariant-loop-member
invariant-loop-member l = IsSetOf (λ b. HasAddress l.first b ⊎ Contains (take l.member-index l.members) b) l.all
