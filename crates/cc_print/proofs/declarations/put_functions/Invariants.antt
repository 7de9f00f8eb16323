use Rattle.std.proofs.Common.{◌≡◌, ◌≤◌, length, drop}
use Rattle.cc_pieces.specs.View.{pieces_of}
use Rattle.cc_print.specs.Units.{each, function}
use Rattle.cc_print.proofs.declarations.put_functions.Given as goal

-- the elements from here on are printed
abbrev pub invariant-loop-left : goal.invariant-loop-left
invariant-loop-left l = (l.left ≤ length l.funcs) × (pieces_of l.out.items ≡ each (function l.p) (drop l.left l.funcs) (pieces_of l.initial.out.items))

abbrev pub decreases-loop-left : goal.decreases-loop-left
decreases-loop-left l = l.left
