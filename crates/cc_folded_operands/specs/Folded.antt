-- What an expression is found to be has folded expressions: no part of one but a constant is an integer constant expression
-- that has a value (C99 6.6).
use Rattle.std.specs.Prelude.{◌≡◌, true}
use Rattle.cc_designators.specs.Designators.{TypedExpr, IsPlace, IsValue, IsFunction, IsIntrinsic, IsAddress}
use Rattle.cc_program.specs.CcNum.declared.target.Target.{Target}
use Rattle.cc_operands.specs.Operands.{Operand, constancy, is_pointer}
use Rattle.cc_operands.specs.CcSyntax.Folding.{NoConstant, is_folded, is_folded_place, constant_of}

module _ (target : Target) where
  -- an operand says what its expression is as a constant expression; a pointer is none
  pub record IsFoldedOperand (x : Operand) : Type 0 where
    pub folded : is_folded target x.value ≡ true
    pub constant : constant_of target x.value ≡ constancy x
    pub no_pointer : is_pointer x.type ≡ true → constancy x ≡ NoConstant

  abbrev pub IsFoldedExpr : TypedExpr → Type 0
  IsFoldedExpr (IsPlace a t) = is_folded_place target a ≡ true
  IsFoldedExpr (IsValue x) = IsFoldedOperand x
  IsFoldedExpr (IsFunction f sig) = Unit {0}
  IsFoldedExpr (IsIntrinsic i at) = Unit {0}
  IsFoldedExpr (IsAddress n t at) = Unit {0}
