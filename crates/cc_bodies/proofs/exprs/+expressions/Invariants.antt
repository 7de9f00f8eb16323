use Rattle.std.proofs.Common.{◌+◌, ◌*◌, max}
use Rattle.cc_program.specs.declared.expr.Expr.{size-Expr}
use Rattle.cc_program.specs.declared.expr.Place.{size-Place}
use Rattle.cc_bodies.proofs.exprs.+expressions.Given as goal

abbrev pub decreases-put_expr : goal.decreases-put_expr
decreases-put_expr l = 3 * size-Expr l.e.now

abbrev pub decreases-put_place : goal.decreases-put_place
decreases-put_place l = 3 * size-Place l.a.now

abbrev pub decreases-put_binary : goal.decreases-put_binary
decreases-put_binary l = 3 * max (size-Expr l.a.now) (size-Expr l.b.now) + 2
