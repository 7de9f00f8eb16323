use Rattle.std.proofs.Common.{◌≡◌, ◌≤◌, length, drop}
use Rattle.cc_pieces.specs.View.{pieces_of}
use Rattle.cc_bodies.specs.Stmts.{label_lines}
use Rattle.cc_bodies.proofs.stmts.put_labels.Given as goal

abbrev pub invariant-loop-left : goal.invariant-loop-left
invariant-loop-left l = (l.left ≤ length l.labels) × (pieces_of l.out.items ≡ label_lines l.target l.t l.level (drop l.left l.labels) (pieces_of l.initial.out.items))

abbrev pub decreases-loop-left : goal.decreases-loop-left
decreases-loop-left l = l.left
