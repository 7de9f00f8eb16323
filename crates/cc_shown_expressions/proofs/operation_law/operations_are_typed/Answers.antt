use Rattle.std.proofs.Common.{refl}
use Rattle.cc_program.specs.declared.expr.Expr.{FuncAddr, Null, out-Expr}
use Rattle.cc_program.specs.declared.expr.Expr.TheOpen as one
use Rattle.cc_program.specs.declared.expr.Expr.TheVariants as expr_rolls
use Rattle.cc_program.specs.declared.expr.Place.{Local, Static}
use Rattle.cc_program.specs.declared.expr.Place.{Device as DeviceAt}
use Rattle.cc_program.specs.declared.expr.Place.TheVariants as place_rolls
use Rattle.cc_shown_expressions.proofs.Levels.{expr-at, place-numbered-at}
use Rattle.cc_shown_expressions.proofs.Operations.{unary-shown, binary-shown}
use Rattle.cc_shown_expressions.proofs.operation_law.operations_are_typed.Goals as goal

pub returns : goal.returns
returns c = record {
  numbered = λ n i. (place-numbered-at n (Static i) (one.Static i) (place_rolls.outs-Static i), place-numbered-at n (DeviceAt i) (one.Device i) (place_rolls.outs-Device i), place-numbered-at n (Local i) (one.Local i) (place_rolls.outs-Local i), expr-at n (FuncAddr i) (one.FuncAddr i) (expr_rolls.outs-FuncAddr i));
  nulls = λ n t. expr-at n (Null t) (one.Null t) (expr_rolls.outs-Null t);
  unary = unary-shown;
  binary = λ p f n s known o a b e v x y at h k left right. binary-shown p f n s known (out-Expr e) o a b h e v x y at refl k left right;
}
