-- What a program in normal form says of an operand, and of a place with such operands: it has a type, which is scalar, is
-- pure, and no part of it but a constant has a value.
use Rattle.std.specs.Prelude.{◌≡◌, true, Some}
use Rattle.cc_program.specs.declared.expr.Expr.{Expr}
use Rattle.cc_program.specs.declared.expr.Place.{Place}
use Rattle.cc_program.specs.declared.func.Func.{Func}
use Rattle.cc_program.specs.declared.program.Program.{Program}
use Rattle.cc_terms.specs.CcSyntax.Effects.{no_one, effects_of, place_effects_of}
use Rattle.cc_terms.specs.CcSyntax.Programs.{type_of, place_type}
use Rattle.cc_terms.specs.CcSyntax.Folding.{is_folded, is_folded_place}
use Rattle.cc_terms.specs.CcSyntax.Values.{ValueType, PlaceType, is_scalar}

module _ (p : Program) (f : Func) where
  pub record HasOperand (e : Expr) (v : ValueType) : Type 0 where
    pub typed : type_of p f.locals e ≡ Some v
    pub scalar : is_scalar v ≡ true
    pub pure : (effects_of f e).pure no_one ≡ true
    pub folded : is_folded p.target e ≡ true

  pub record HasPlace (a : Place) (t : PlaceType) : Type 0 where
    pub typed : place_type p f.locals a ≡ Some t
    pub pure : (place_effects_of f a).pure no_one ≡ true
    pub folded : is_folded_place p.target a ≡ true
