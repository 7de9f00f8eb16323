-- Trees that are typed to an expression and to a place of a program, with the numbers of the unit, where what is known stays
-- as it is.
use Rattle.std.specs.Prelude.{◌≡◌, ℕ, Bool, true, false, None, Ok}
use Rattle.cc_terms.specs.CcDesignators.Designators.{TypedExpr, IsPlace}
use Rattle.cc_terms.specs.CcOperands.Operands.{Operand, is_pointer}
use Rattle.cc_terms.specs.CcTypedTerms.Devices.{cast_constant}
use Rattle.cc_terms.specs.CcTypedTerms.Operators.{intrinsic_in}
use Rattle.cc_terms.specs.CcTypedTerms.Values.{valued}
use Rattle.cc_program.specs.declared.expr.Expr.{Expr, out-Expr}
use Rattle.cc_program.specs.declared.expr.Place.{Place}
use Rattle.cc_program.specs.declared.program.Program.{Program}
use Rattle.cc_terms.specs.CcScopes.State.{State}
use Rattle.cc_terms.specs.CcSyntax.Folding.{Constant, NoConstant, Value, Traps, constant_of}
use Rattle.cc_terms.specs.CcSyntax.Values.{ValueType, PlaceType}
use Rattle.cc_terms.specs.Terms.{tree_of}
use Rattle.cc_tree.specs.declared.tree.Tree.{Tree}
use Rattle.cc_expression_trees.specs.Exprs.{is_null}
use Rattle.cc_shown_expressions.specs.Fits.{FitsValue}
use Rattle.cc_shown_expressions.specs.OperationNumbers.{Numbers, expr_numbered, place_numbered}
use Rattle.cc_shown_expressions.specs.Numbers.{value_numbered, place_type_numbered}

abbrev pub is_trap : Constant → Bool
is_trap NoConstant = false
is_trap (Value n) = false
is_trap Traps = true

module _ (p : Program) (n : Numbers) where
  -- the value of an expression of a type
  abbrev pub operand_of : Expr → ValueType → Operand
  operand_of e t = record { value = expr_numbered n e; type = value_numbered n.structure t; traps = is_trap (constant_of p.target e); structure = false }

module _ (p : Program) (n : Numbers) (s : State) where
  -- a tree has this value; it is no intrinsic, and a constant that is cast to a pointer only where the expression is a null
  pub record IsTypedAs (x : Tree) (at : ℕ) (e : Expr) (t : ValueType) : Type 0 where
    pub found : TypedExpr
    pub is : tree_of p.target p.roles x at s ≡ Ok (found, s)
    pub value : (i : ℕ) → valued i found s ≡ Ok (operand_of p n e t, s)
    pub address : is_null (out-Expr e) ≡ false → cast_constant found ≡ None
    pub intrinsic : intrinsic_in found ≡ None

  abbrev pub IsPlacedAs : Tree → ℕ → Place → PlaceType → Type 0
  IsPlacedAs x at a t = tree_of p.target p.roles x at s ≡ Ok (IsPlace (place_numbered n a) (place_type_numbered n.structure t), s)

  -- typed to an expression, whose type a program has; a pointer is no integer constant
  pub record IsShown (x : Tree) (at : ℕ) (e : Expr) (t : ValueType) : Type 0 where
    pub typed : IsTypedAs x at e t
    pub fits : FitsValue p t
    pub number : is_pointer t ≡ true → constant_of p.target e ≡ NoConstant
