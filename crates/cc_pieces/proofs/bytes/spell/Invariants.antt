use Rattle.std.proofs.Common.{◌≡◌, ◌≤◌, ◌++◌, length}
use Rattle.cc_pieces.specs.Pieces.{flat}
use Rattle.cc_pieces.specs.View.{pieces_of}
use Rattle.cc_pieces.proofs.PieceLemmas.{rest}
use Rattle.cc_pieces.proofs.bytes.spell.Given as goal

-- the pieces from here on are spelled, but for bytes of the next one
abbrev pub invariant-loop-left : goal.invariant-loop-left
invariant-loop-left l = (l.left ≤ length l.last_first) × (l.out.items ++ rest l.bytes.items l.last_first l.left ≡ flat (pieces_of l.last_first))

abbrev pub decreases-loop-left : goal.decreases-loop-left
decreases-loop-left l = l.left
