-- What is shown of the pieces that an expression is lowered to, in a function that has the temporaries.
use Rattle.std.specs.Prelude.{◌≡◌, ◌≤◌, ◌<◌, ◌+◌, ℕ, Bool, true, List, [], ◌∷◌, length, Some, slice_get}
use Rattle.cc_lower_expressions.specs.Expressions.{Temps, Piece}
use Rattle.cc_lower_expressions.specs.Temporaries.{declared_type}
use Rattle.cc_operand_types.specs.Reduced.{Reduced}
use Rattle.cc_program.specs.declared.expr.Expr.{Expr}
use Rattle.cc_program.specs.declared.expr.Place.{Local}
use Rattle.cc_program.specs.declared.func.Func.{Func}
use Rattle.cc_program.specs.declared.program.Program.{Program}
use Rattle.cc_program.specs.declared.stmt.Stmt.{Stmt}
use Rattle.cc_program.specs.declared.types.CType.{CType}
use Rattle.cc_program.proofs.Each.{Each}
use Rattle.cc_eval.specs.CcSyntax.Expressions.{type_of, place_type}
use Rattle.cc_eval.specs.CcSyntax.Normal.{is_operand, is_normal_stmt}
use Rattle.cc_eval.specs.CcSyntax.Registers.{is_register}
use Rattle.cc_eval.specs.CcSyntax.Statements.{is_sound_stmt}
use Rattle.cc_eval.specs.CcSyntax.Types.{Named}
use Rattle.cc_eval.specs.CcSyntax.Values.{ValueType, PlaceType, written_to, is_assignable}
use Rattle.cc_eval.specs.CcSyntax.Views.{of_program}

-- locals to which others are added
abbrev pub Extends : List Named → List Named → Type 0
Extends locals more = (r : ℕ) (l : Named) → slice_get locals r ≡ Some l → slice_get more r ≡ Some l

module _ (locals : List Named) where
  -- the locals from a number on are declared as these temporaries
  abbrev pub AreDeclared : ℕ → Temps → Type 0
  AreDeclared k [] = Unit {0}
  AreDeclared k (t ∷ ts) = ((l : Named) × (slice_get locals k ≡ Some l) × (l.1 ≡ declared_type t)) × AreDeclared (k + 1) ts

  module _ (p : Program) (result : CType) where
    -- sound wherever it stands
    abbrev pub IsSoundAnywhere : Stmt → Type 0
    IsSoundAnywhere s = (breaks continues : Bool) → is_sound_stmt p.target (type_of (of_program p) locals) result s breaks continues ≡ true

    -- an operand has the type of its source, but for qualifiers that it may lack at what is pointed to
    pub record IsTypedOperand (t : ValueType) (x : Piece Expr) : Type 0 where
      pub stmts : Each IsSoundAnywhere x.stmts
      pub own : ValueType
      pub typed : type_of (of_program p) locals x.value ≡ Some own
      pub lacks : Reduced own t

    -- a local that may be assigned a value of the type
    pub record TakesValues (n : ℕ) (t : ValueType) : Type 0 where
      pub place : PlaceType
      pub to : ValueType
      pub placed : place_type (of_program p) locals (Local n) ≡ Some place
      pub writes : written_to place ≡ Some to
      pub fits : is_assignable to t ≡ true

module _ (p : Program) (g : Func) where
  -- the locals from a number on are registers, as many as the temporaries
  abbrev pub AreRegisters : ℕ → Temps → Type 0
  AreRegisters k ts = (n : ℕ) → k ≤ n → n < k + length ts → is_register g n ≡ true

  abbrev pub AreNormal : List Stmt → Type 0
  AreNormal list = Each (λ s. is_normal_stmt p.target g s ≡ true) list

  pub record IsNormalOperand (x : Piece Expr) : Type 0 where
    pub stmts : AreNormal x.stmts
    pub value : is_operand p.target g x.value ≡ true
