-- The expressions of each kind of operator.
use Rattle.cc_program.specs.declared.expr.Expr.{Expr}
use Rattle.cc_program.specs.declared.expr.Expr.TheOpen as layer
use Rattle.cc_program.specs.declared.expr.Place.{Place as PlaceOf}
use Rattle.cc_state_operators.specs.declared.operators.OneOperand.{OneOperand}
use Rattle.cc_state_operators.specs.declared.operators.OneOperand.TheVariants as one
use Rattle.cc_state_operators.specs.declared.operators.TwoOperands.{TwoOperands}
use Rattle.cc_state_operators.specs.declared.operators.TwoOperands.TheVariants as two

abbrev pub of_one : OneOperand → Expr → layer.Expr-F Expr PlaceOf
of_one (one.Operator o t) a = layer.Un o t a
of_one (one.Conversion t) a = layer.Conv t a

abbrev pub of_two : TwoOperands → Expr → Expr → layer.Expr-F Expr PlaceOf
of_two (two.Operator o t) a b = layer.Bin o t a b
of_two (two.Movement back) a b = layer.Move a b back
of_two two.Difference a b = layer.Gap a b
of_two (two.Comparison o) a b = layer.Compare o a b
of_two two.Both a b = layer.Both a b
of_two two.Either a b = layer.Either a b
