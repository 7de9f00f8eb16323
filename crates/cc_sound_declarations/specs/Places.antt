-- The places of the scalars of an object, typed: each is one of a scalar of its type, const where that is (C99 6.5.2.1, 6.5.2.3, 6.7.3).
use Rattle.std.specs.Prelude.{◌≡◌, Bool, true, List, [], ◌∷◌, Some}
use Rattle.cc_sound_declarations.specs.Scalars.{OneScalar}
use Rattle.cc_operand_types.specs.Typed.{stands}
use Rattle.cc_program.specs.declared.expr.Place.{Place}
use Rattle.cc_program.specs.declared.types.CType.{CType}
use Rattle.cc_typed_bodies.specs.CcSyntax.Types.{Named}
use Rattle.cc_typed_bodies.specs.CcSyntax.Values.{ObjectPlace, scalar_value}
use Rattle.cc_typed_bodies.specs.CcSyntax.Views.{View}
use Rattle.cc_typed_bodies.specs.CcSyntax.Expressions.{place_type}

module _ (v : View) (locals : List Named) where
  pub record IsScalarPlace (s : OneScalar) (a : Place) : Type 0 where
    pub volatile : Bool
    pub ctype : CType
    pub place : place_type v locals a ≡ Some (ObjectPlace s.0 volatile ctype)
    pub value : scalar_value ctype ≡ Some s.1
    pub standing : stands v s.1 ≡ true

  abbrev pub ArePlaces : List OneScalar → List Place → Type 0
  ArePlaces [] [] = Unit {0}
  ArePlaces (s ∷ ss) (a ∷ rest) = IsScalarPlace s a × ArePlaces ss rest
  ArePlaces [] (a ∷ rest) = ⊥
  ArePlaces (s ∷ ss) [] = ⊥
