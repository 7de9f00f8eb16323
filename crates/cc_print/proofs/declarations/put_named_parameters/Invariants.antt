use Rattle.std.proofs.Common.{◌≡◌, ◌≤◌, length, drop}
use Rattle.cc_pieces.specs.View.{pieces_of}
use Rattle.cc_print.specs.Units.{further_parameters}
use Rattle.cc_print.proofs.declarations.put_named_parameters.Given as goal

-- the elements from here on are printed
abbrev pub invariant-loop-left : goal.invariant-loop-left
invariant-loop-left l = (1 ≤ l.left) × (l.left ≤ length l.params) × (pieces_of l.out.items ≡ further_parameters l.structures (drop l.left l.params) (pieces_of l.initial.out.items))

abbrev pub decreases-loop-left : goal.decreases-loop-left
decreases-loop-left l = l.left
