use Rattle.std.proofs.Common.{◌≡◌, ◌≤◌, ◌++◌, length, drop, map}
use Rattle.cc_pieces.specs.View.{piece_of, pieces_of}
use Rattle.cc_pieces.proofs.puts.put_all.Given as goal

-- the pieces from here on are put
abbrev pub invariant-loop-left : goal.invariant-loop-left
invariant-loop-left l = (l.left ≤ length l.pieces) × (pieces_of l.out.items ≡ map piece_of (drop l.left l.pieces) ++ pieces_of l.initial.out.items)

abbrev pub decreases-loop-left : goal.decreases-loop-left
decreases-loop-left l = l.left
