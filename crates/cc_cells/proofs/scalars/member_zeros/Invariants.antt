use Rattle.std.proofs.Common.{◌≡◌, take}
use Rattle.cc_cells.specs.Scalars.{member_zeros}
use Rattle.cc_cells.proofs.scalars.member_zeros.Given as goal

abbrev pub invariant-loop-member : goal.invariant-loop-member
invariant-loop-member l = l.all.items ≡ member_zeros l.structures (take l.member-index l.members)
