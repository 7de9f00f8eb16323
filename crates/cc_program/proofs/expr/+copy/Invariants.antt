use Rattle.std.proofs.Common.{◌≡◌, ◌+◌, ◌*◌, take, max}
use Rattle.cc_program.specs.declared.expr.Expr.{size-Expr}
use Rattle.cc_program.specs.declared.expr.Place.{size-Place}
use Rattle.cc_program.proofs.expr.+copy.Given as goal

abbrev pub invariant-copies::copy_args-loop-arg : goal.invariant-copies::copy_args-loop-arg
invariant-copies::copy_args-loop-arg l = l.copies.items ≡ take l.arg-index l.arg-items

abbrev pub decreases-Expr::copy : goal.decreases-Expr::copy
decreases-Expr::copy l = 3 * size-Expr l.self.now

abbrev pub decreases-Expr::copy_boxed : goal.decreases-Expr::copy_boxed
decreases-Expr::copy_boxed l = 3 * size-Expr l.self.now + 1

abbrev pub decreases-Place::copy : goal.decreases-Place::copy
decreases-Place::copy l = 3 * size-Place l.self.now

abbrev pub decreases-Place::copy_boxed : goal.decreases-Place::copy_boxed
decreases-Place::copy_boxed l = 3 * size-Place l.self.now + 1

abbrev pub decreases-copies::copy_args : goal.decreases-copies::copy_args
decreases-copies::copy_args l = 3 * goal.size-copies::copy_args l + 2

abbrev pub decreases-copies::copy_two : goal.decreases-copies::copy_two
decreases-copies::copy_two l = 3 * max (size-Expr l.a.now) (size-Expr l.b.now) + 2
