use Rattle.std.proofs.Common.{◌≡◌, ◌+◌, ◌*◌, take, map, max}
use Rattle.cc_program.specs.declared.expr.Expr.{size-Expr}
use Rattle.cc_program.specs.declared.expr.Place.{size-Place}
use Rattle.cc_unit.specs.Renumbered.{expr_renumbered}
use Rattle.cc_unit.proofs.expr.+renumber.Given as goal

abbrev pub invariant-renumber_args-loop-arg : goal.invariant-renumber_args-loop-arg
invariant-renumber_args-loop-arg l = l.renumbered.items ≡ map (λ e. expr_renumbered l.ids e) (take l.arg-index l.arg-items)

abbrev pub decreases-renumber_expr : goal.decreases-renumber_expr
decreases-renumber_expr l = 3 * size-Expr l.e.now

abbrev pub decreases-renumber_boxed : goal.decreases-renumber_boxed
decreases-renumber_boxed l = 3 * size-Expr l.e.now + 1

abbrev pub decreases-renumber_place : goal.decreases-renumber_place
decreases-renumber_place l = 3 * size-Place l.p.now

abbrev pub decreases-renumber_boxed_place : goal.decreases-renumber_boxed_place
decreases-renumber_boxed_place l = 3 * size-Place l.p.now + 1

abbrev pub decreases-renumber_args : goal.decreases-renumber_args
decreases-renumber_args l = 3 * goal.size-renumber_args l + 2

abbrev pub decreases-renumber_two : goal.decreases-renumber_two
decreases-renumber_two l = 3 * max (size-Expr l.a.now) (size-Expr l.b.now) + 2
