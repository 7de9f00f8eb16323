use Rattle.std.proofs.Common.{◌+◌, ◌*◌, ◌++◌, max, drop, List}
use Rattle.cc_program.specs.declared.expr.Expr.{Expr, size-Expr}
use Rattle.cc_program.specs.declared.expr.Place.{size-Place}
use Rattle.cc_program.specs.declared.stmt.Stmt.{Stmt}
use Rattle.cc_eval.specs.CcSyntax.Types.{Named}
use Rattle.cc_lower_accesses.specs.Assigned.{among}
use Rattle.cc_lower_accesses.specs.Modes.{arguments_of}
use Rattle.cc_lower_operands.specs.Made.{IsMade}
use Rattle.cc_lower_operands.proofs.operands.+lower.Given as goal

-- what is made of the arguments that are left is what is missing of all
abbrev pub invariant-arguments-loop-i : goal.invariant-arguments-loop-i
invariant-arguments-loop-i l =
    (rest : List Expr) (after : List Named) (behind : List Stmt) →
    IsMade (arguments_of l.body.program.now l.body.func.now (drop l.i l.args) (among l.later)) rest l.locals.items after l.out.items behind →
    IsMade (arguments_of l.body.program.now l.body.func.now l.args (among l.later)) (l.values.items ++ rest) l.fn.locals.items after l.fn.out.items behind

-- ---- what each goes over is smaller, or as large and the function stands behind in the order of the calls

abbrev pub decreases-operand : goal.decreases-operand
decreases-operand l = 8 * size-Expr l.e.now

abbrev pub decreases-whole : goal.decreases-whole
decreases-whole l = 8 * size-Expr l.e.now + 1

abbrev pub decreases-effect : goal.decreases-effect
decreases-effect l = 8 * size-Expr l.e.now + 1

abbrev pub decreases-place : goal.decreases-place
decreases-place l = 8 * size-Place l.a.now

abbrev pub decreases-operand_before : goal.decreases-operand_before
decreases-operand_before l = 8 * size-Expr l.a.now + 1

abbrev pub decreases-effect_before : goal.decreases-effect_before
decreases-effect_before l = 8 * size-Expr l.a.now + 2

abbrev pub decreases-place_before : goal.decreases-place_before
decreases-place_before l = 8 * size-Place l.a.now + 1

abbrev pub decreases-condition : goal.decreases-condition
decreases-condition l = 8 * size-Expr l.c.now + 1

abbrev pub decreases-pair : goal.decreases-pair
decreases-pair l = 8 * max (size-Expr l.a.now) (size-Expr l.b.now) + 2

abbrev pub decreases-placed : goal.decreases-placed
decreases-placed l = 8 * max (size-Place l.a.now) (size-Expr l.e.now) + 2

abbrev pub decreases-arguments : goal.decreases-arguments
decreases-arguments l = 8 * goal.size-arguments l + 1

abbrev pub decreases-call : goal.decreases-call
decreases-call l = 8 * max (goal.size-call l) (size-Expr l.g.now) + 2

abbrev pub decreases-intrinsic : goal.decreases-intrinsic
decreases-intrinsic l = 8 * goal.size-intrinsic l + 1

abbrev pub decreases-decided : goal.decreases-decided
decreases-decided l = 8 * max (size-Expr l.a.now) (size-Expr l.b.now) + 2

abbrev pub decreases-choose : goal.decreases-choose
decreases-choose l = 8 * max (size-Expr l.c.now) (max (size-Expr l.a.now) (size-Expr l.b.now)) + 2

abbrev pub decreases-choose_void : goal.decreases-choose_void
decreases-choose_void l = 8 * max (size-Expr l.c.now) (max (size-Expr l.a.now) (size-Expr l.b.now)) + 3

abbrev pub decreases-assigned_value : goal.decreases-assigned_value
decreases-assigned_value l = 8 * max (size-Place l.a.now) (size-Expr l.e.now) + 2
