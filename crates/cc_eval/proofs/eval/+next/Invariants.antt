use Rattle.std.proofs.Common.{◌≡◌, ◌+◌, ◌*◌, ◌++◌, map, max, drop}
use Rattle.cc_program.specs.declared.expr.Expr.{size-Expr}
use Rattle.cc_program.specs.declared.expr.Place.{size-Place}
use Rattle.cc_eval.specs.Eval.{meaning, each}
use Rattle.cc_eval.specs.Progress.{and_then, known}
use Rattle.cc_eval.specs.View.{context_of, later_of}
use Rattle.cc_eval.proofs.eval.+next.Given as goal

abbrev pub invariant-each-loop-i : goal.invariant-each-loop-i
invariant-each-loop-i l =
    each (map (meaning (context_of l.c)) l.args) (later_of (context_of l.c) l.later) l.marks ≡
    and_then (each (map (meaning (context_of l.c)) (drop l.i l.args)) (later_of (context_of l.c) l.later) l.left) (λ vs. known (l.values.items ++ vs))

abbrev pub decreases-next : goal.decreases-next
decreases-next l = 4 * size-Expr l.e.now

abbrev pub decreases-leads : goal.decreases-leads
decreases-leads l = 4 * size-Place l.a.now

abbrev pub decreases-element : goal.decreases-element
decreases-element l = 4 * max (size-Place l.a.now) (size-Expr l.i.now) + 2

abbrev pub decreases-both : goal.decreases-both
decreases-both l = 4 * max (size-Expr l.a.now) (size-Expr l.b.now) + 2

abbrev pub decreases-either : goal.decreases-either
decreases-either l = 4 * max (size-Expr l.a.now) (size-Expr l.b.now) + 2

abbrev pub decreases-sequence : goal.decreases-sequence
decreases-sequence l = 4 * max (size-Expr l.a.now) (size-Expr l.b.now) + 2

abbrev pub decreases-chosen_arm : goal.decreases-chosen_arm
decreases-chosen_arm l = 4 * max (size-Expr l.d.now) (max (size-Expr l.a.now) (size-Expr l.b.now)) + 2

abbrev pub decreases-each : goal.decreases-each
decreases-each l = 4 * goal.size-each l + 2

abbrev pub decreases-call : goal.decreases-call
decreases-call l = 4 * goal.size-call l + 3

abbrev pub decreases-of_one : goal.decreases-of_one
decreases-of_one l = 4 * size-Expr l.a.now + 1

abbrev pub decreases-of_both : goal.decreases-of_both
decreases-of_both l = 4 * max (size-Expr l.a.now) (size-Expr l.b.now) + 3

abbrev pub decreases-at_place : goal.decreases-at_place
decreases-at_place l = 4 * size-Place l.a.now + 1

abbrev pub decreases-to_place : goal.decreases-to_place
decreases-to_place l = 4 * max (size-Place l.a.now) (size-Expr l.e.now) + 3
