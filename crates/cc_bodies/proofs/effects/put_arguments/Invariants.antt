use Rattle.std.proofs.Common.{◌≡◌, ◌≤◌, length, drop}
use Rattle.cc_pieces.specs.View.{pieces_of}
use Rattle.cc_bodies.specs.Stmts.{further_arguments}
use Rattle.cc_bodies.proofs.effects.put_arguments.Given as goal

-- the arguments from here on are printed
abbrev pub invariant-loop-left : goal.invariant-loop-left
invariant-loop-left l = (1 ≤ l.left) × (l.left ≤ length l.args)
    × (pieces_of l.out.items ≡ further_arguments l.c.program.now l.c.func.now (drop l.left l.params) (drop l.left l.args) (pieces_of l.initial.out.items))

abbrev pub decreases-loop-left : goal.decreases-loop-left
decreases-loop-left l = l.left
