use Rattle.std.proofs.Common.{◌≡◌, length}
use Rattle.cc_print.specs.Units.{member_naming}
use Rattle.cc_print.proofs.structures.member_naming.Given as goal

-- what is left decides
abbrev pub invariant-loop-left : goal.invariant-loop-left
invariant-loop-left l = member_naming l.id l.left ≡ member_naming l.id l.fn.members

abbrev pub decreases-loop-left : goal.decreases-loop-left
decreases-loop-left l = length l.left
