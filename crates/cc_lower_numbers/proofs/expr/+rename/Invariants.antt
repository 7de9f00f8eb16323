use Rattle.std.proofs.Common.{◌≡◌, ◌+◌, ◌*◌, map, max}
use Rattle.cc_program.specs.declared.expr.Expr.{size-Expr}
use Rattle.cc_program.specs.declared.expr.Place.{size-Place}
use Rattle.cc_lower_numbers.specs.Renamed.{number_at, expr_renamed}
use Rattle.cc_lower_numbers.proofs.expr.+rename.Given as goal

abbrev pub invariant-rename_args-loop-arg : goal.invariant-rename_args-loop-arg
invariant-rename_args-loop-arg l = l.renamed.items ≡ map (λ e. expr_renamed (number_at l.locals) (number_at l.devices) e) l.yielded

abbrev pub decreases-rename_expr : goal.decreases-rename_expr
decreases-rename_expr l = 3 * size-Expr l.e

abbrev pub decreases-rename_boxed : goal.decreases-rename_boxed
decreases-rename_boxed l = 3 * size-Expr l.e + 1

abbrev pub decreases-rename_place : goal.decreases-rename_place
decreases-rename_place l = 3 * size-Place l.p

abbrev pub decreases-rename_boxed_place : goal.decreases-rename_boxed_place
decreases-rename_boxed_place l = 3 * size-Place l.p + 1

abbrev pub decreases-rename_args : goal.decreases-rename_args
decreases-rename_args l = 3 * goal.size-rename_args l + 2

abbrev pub decreases-rename_two : goal.decreases-rename_two
decreases-rename_two l = 3 * max (size-Expr l.a) (size-Expr l.b) + 2
