-- What the scalars of an automatic object are given: an expression each, which may be assigned to it (C99 6.7.8, 11).
use Rattle.std.specs.Prelude.{◌≡◌, true, false, List, [], ◌∷◌}
use Rattle.cc_sound_declarations.specs.Scalars.{OneScalar}
use Rattle.cc_operand_types.specs.Typed.{IsAssigned, stands}
use Rattle.cc_program.specs.declared.expr.Expr.{Expr}
use Rattle.cc_typed_bodies.specs.CcSyntax.Types.{Named}
use Rattle.cc_typed_bodies.specs.CcSyntax.Values.{is_scalar}
use Rattle.cc_typed_bodies.specs.CcSyntax.Views.{View}

-- a scalar of a type that may stand
abbrev pub MayStand : View → OneScalar → Type 0
MayStand v s = (is_scalar s.1 ≡ true) × (stands v s.1 ≡ true)

module _ (v : View) (locals : List Named) where
  -- one that is not const
  abbrev pub IsGiven : OneScalar → Expr → Type 0
  IsGiven s e = (s.0 ≡ false) × IsAssigned v locals s.1 e

  -- each of them, in order
  abbrev pub AreGiven : List OneScalar → List Expr → Type 0
  AreGiven [] [] = Unit {0}
  AreGiven (s ∷ ss) (e ∷ es) = IsGiven s e × AreGiven ss es
  AreGiven [] (e ∷ es) = ⊥
  AreGiven (s ∷ ss) [] = ⊥
