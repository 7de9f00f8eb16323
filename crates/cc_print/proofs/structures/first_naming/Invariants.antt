use Rattle.std.proofs.Common.{◌≡◌, length}
use Rattle.cc_print.specs.Units.{first_naming}
use Rattle.cc_print.proofs.structures.first_naming.Given as goal

-- what is left decides
abbrev pub invariant-loop-left : goal.invariant-loop-left
invariant-loop-left l = first_naming l.id l.left ≡ first_naming l.id l.fn.structures

abbrev pub decreases-loop-left : goal.decreases-loop-left
decreases-loop-left l = length l.left
