-- What an expression is as an integer constant expression (C99 6.6): reading a program folds each operator
-- whose operands are all constants, where its value does not trap.
use Rattle.std.specs.Prelude.{ℤ, pos, Bool, true, false, not, ◌&&◌, ◌||◌, Option, Some, None, if◌then◌else◌}
use Rattle.std.specs.List.{list_all}
use Rattle.std.specs.Ordering.{int_eq}
use Rattle.cc_program.specs.CcNum.declared.int_type.IntType.{IntType}
use Rattle.cc_program.specs.CcNum.declared.op.BinOp.{BinOp}
use Rattle.cc_program.specs.CcNum.declared.op.UnOp.{UnOp}
use Rattle.cc_program.specs.CcNum.declared.target.Target.{Target}
use Rattle.cc_program.specs.CcNum.Integers.{is_value_of, converted}
use Rattle.cc_program.specs.CcNum.Results.{result_of, unary_result_of, is_shift, one_if}
use Rattle.cc_program.specs.declared.expr.Expr.{Expr, fold-Expr}
use Rattle.cc_program.specs.declared.expr.Expr.TheOpen as one
use Rattle.cc_program.specs.declared.expr.Place.{Place, fold-Place}
use Rattle.cc_syntax.specs.Operators.{is_promoted}

-- no integer constant expression; one with a value; one that traps
pub data Constant : Type 0 where
  NoConstant : Constant
  Value : ℤ → Constant
  Traps : Constant

abbrev pub result_constant : Option ℤ → Constant
result_constant None = Traps
result_constant (Some n) = Value n

-- an operator over values of its type; in a sound program they are
abbrev pub unary_value : Target → UnOp → IntType → ℤ → Constant
unary_value target o t n = if is_promoted target t && is_value_of t target n then result_constant (unary_result_of o n t target) else NoConstant

abbrev pub unary_constant : Target → UnOp → IntType → Constant → Constant
unary_constant target o t NoConstant = NoConstant
unary_constant target o t (Value n) = unary_value target o t n
unary_constant target o t Traps = Traps

abbrev pub binary_value : Target → BinOp → IntType → ℤ → ℤ → Constant
binary_value target o t m n =
    if is_promoted target t && (is_value_of t target m && (is_shift o || is_value_of t target n)) then result_constant (result_of o m n t target) else NoConstant

abbrev pub binary_constant : Target → BinOp → IntType → Constant → Constant → Constant
binary_constant target o t (Value m) (Value n) = binary_value target o t m n
binary_constant target o t NoConstant b = NoConstant
binary_constant target o t (Value m) NoConstant = NoConstant
binary_constant target o t (Value m) Traps = Traps
binary_constant target o t Traps NoConstant = NoConstant
binary_constant target o t Traps (Value n) = Traps
binary_constant target o t Traps Traps = Traps

abbrev pub converted_constant : Target → IntType → Constant → Constant
converted_constant target t NoConstant = NoConstant
converted_constant target t (Value n) = Value (converted n t target)
converted_constant target t Traps = Traps

abbrev pub is_true : ℤ → Bool
is_true n = not (int_eq n (pos 0))

abbrev pub truth_constant : Constant → Constant
truth_constant NoConstant = NoConstant
truth_constant (Value n) = Value (one_if (is_true n))
truth_constant Traps = Traps

-- an operand that is not evaluated has to be a constant expression, and may trap (6.6, 3)
abbrev pub settled : Constant → Constant → Constant
settled NoConstant value = NoConstant
settled (Value n) value = value
settled Traps value = value

-- `a && b`, `a || b` and `c ? a : b`
abbrev pub both_constant : Constant → Constant → Constant
both_constant NoConstant b = NoConstant
both_constant (Value m) b = if is_true m then truth_constant b else settled b (Value (pos 0))
both_constant Traps b = settled b Traps

abbrev pub either_constant : Constant → Constant → Constant
either_constant NoConstant b = NoConstant
either_constant (Value m) b = if is_true m then settled b (Value (pos 1)) else truth_constant b
either_constant Traps b = settled b Traps

abbrev pub chosen_constant : Constant → Constant → Constant → Constant
chosen_constant NoConstant a b = NoConstant
chosen_constant (Value n) a b = if is_true n then settled b a else settled a b
chosen_constant Traps a b = settled a (settled b Traps)

-- what an expression is, and whether reading leaves it as it is: no part of it but a constant has a value
pub record Folding : Type 0 where
  pub constant : Constant
  pub is_folded : Bool

abbrev pub has_value : Constant → Bool
has_value NoConstant = false
has_value (Value n) = true
has_value Traps = false

-- an operator over parts that are folded, or are not
abbrev pub operation : Constant → Bool → Folding
operation constant parts = record { constant = constant; is_folded = parts && not (has_value constant) }

-- what is no integer constant expression
abbrev pub variable : Bool → Folding
variable parts = record { constant = NoConstant; is_folded = parts }

abbrev pub is_folded_operand : Option Folding → Bool
is_folded_operand None = true
is_folded_operand (Some a) = a.is_folded

module _ (target : Target) where
  abbrev pub folding_step : one.Expr-F Folding Bool → Folding
  folding_step (one.Const n t) = record { constant = Value n; is_folded = true }
  folding_step (one.Null t) = variable true
  folding_step (one.FuncAddr f) = variable true
  folding_step (one.Load a) = variable a
  folding_step (one.AddrOf a) = variable a
  folding_step (one.Un o t a) = operation (unary_constant target o t a.constant) a.is_folded
  folding_step (one.Bin o t a b) = operation (binary_constant target o t a.constant b.constant) (a.is_folded && b.is_folded)
  folding_step (one.Conv t a) = operation (converted_constant target t a.constant) a.is_folded
  folding_step (one.Qualify t a) = variable a.is_folded
  folding_step (one.Move a b back) = variable (a.is_folded && b.is_folded)
  folding_step (one.Gap a b) = variable (a.is_folded && b.is_folded)
  folding_step (one.Compare o a b) = variable (a.is_folded && b.is_folded)
  folding_step (one.Both a b) = operation (both_constant a.constant b.constant) (a.is_folded && b.is_folded)
  folding_step (one.Either a b) = operation (either_constant a.constant b.constant) (a.is_folded && b.is_folded)
  folding_step (one.Choose c a b) = operation (chosen_constant c.constant a.constant b.constant) (c.is_folded && (a.is_folded && b.is_folded))
  folding_step (one.Assign a e) = variable (a && e.is_folded)
  folding_step (one.Change a o t e) = variable (a && e.is_folded)
  folding_step (one.After a down) = variable a
  folding_step (one.Call f args) = variable (f.is_folded && list_all (λ a. a.is_folded) args)
  folding_step (one.Intr i a) = variable (is_folded_operand a)
  folding_step (one.Seq a b) = variable (a.is_folded && b.is_folded)

  -- of a place: whether the expressions in it are folded
  abbrev pub place_folding_step : one.Place-F Folding Bool → Bool
  place_folding_step (one.Local r) = true
  place_folding_step (one.Static i) = true
  place_folding_step (one.Device d) = true
  place_folding_step (one.Element a i) = a && i.is_folded
  place_folding_step (one.Member a m) = a
  place_folding_step (one.Deref e) = e.is_folded

  unfoldable pub folding_of : Expr → Folding
  folding_of e = fold-Expr Folding Bool folding_step place_folding_step e

  unfoldable pub is_folded_place : Place → Bool
  is_folded_place a = fold-Place Folding Bool folding_step place_folding_step a

  abbrev pub constant_of : Expr → Constant
  constant_of e = (folding_of e).constant

  abbrev pub is_folded : Expr → Bool
  is_folded e = (folding_of e).is_folded
