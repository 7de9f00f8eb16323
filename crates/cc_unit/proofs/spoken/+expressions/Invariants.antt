use Rattle.std.proofs.Common.{◌≡◌, ◌+◌, ◌*◌, ◌++◌, take, max, map}
use Rattle.cc_program.specs.declared.expr.Expr.{size-Expr}
use Rattle.cc_program.specs.declared.expr.Place.{size-Place}
use Rattle.cc_unit.specs.Mentioned.{all_of, in_expr}
use Rattle.cc_unit.proofs.spoken.+expressions.Given as goal

abbrev pub invariant-put_args-loop-arg : goal.invariant-put_args-loop-arg
invariant-put_args-loop-arg l = l.numbers.items ≡ l.initial.numbers.items ++ all_of (map in_expr (take l.arg-index l.args))

abbrev pub decreases-put_expr : goal.decreases-put_expr
decreases-put_expr l = 3 * size-Expr l.e.now

abbrev pub decreases-put_place : goal.decreases-put_place
decreases-put_place l = 3 * size-Place l.p.now

abbrev pub decreases-put_args : goal.decreases-put_args
decreases-put_args l = 3 * goal.size-put_args l + 2

abbrev pub decreases-put_two : goal.decreases-put_two
decreases-put_two l = 3 * max (size-Expr l.a.now) (size-Expr l.b.now) + 2
