-- An operand that can be assigned as the rules ask, and the expression that it is then.
use Rattle.std.specs.Prelude.{◌≡◌, Ok}
use Rattle.cc_program.specs.CcNum.declared.target.Target.{Target}
use Rattle.cc_terms.specs.CcOperands.Assignments.{assigned}
use Rattle.cc_terms.specs.CcOperands.Operands.{Operand}
use Rattle.cc_program.specs.declared.expr.Expr.{Expr}
use Rattle.cc_terms.specs.CcSyntax.Values.{ValueType}

pub record AssignedAs (target : Target) (to : ValueType) (x : Operand) (e : Expr) : Type 0 where
  pub result : Operand
  pub is : assigned target to x ≡ Ok result
  pub value : result.value ≡ e
