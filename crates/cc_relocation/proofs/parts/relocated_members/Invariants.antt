use Rattle.std.proofs.Common.{◌≡◌, map, take}
use Rattle.cc_relocation.specs.Relocated.{member_with}
use Rattle.cc_relocation.proofs.parts.relocated_members.Given as goal

abbrev pub invariant-loop-member : goal.invariant-loop-member
invariant-loop-member l = l.relocated.items ≡ map (λ m. member_with l.structures m) (take l.member-index l.member-items)
