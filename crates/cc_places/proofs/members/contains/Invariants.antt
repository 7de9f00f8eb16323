use Rattle.std.proofs.Common.{take}
use Rattle.std.specs.List.{Contains}
use Rattle.cc_places.specs.Kept.{member_for}
use Rattle.cc_places.proofs.members.contains.Given as goal

abbrev pub invariant-loop-member : goal.invariant-loop-member
invariant-loop-member l = Contains (take l.member-index l.members) (member_for l.is_exact l.a) → ⊥
