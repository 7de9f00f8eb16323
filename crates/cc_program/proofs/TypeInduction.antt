-- Induction over types: a claim holds of all where it holds of each one whose parts it holds of. A proof
-- goes by cases on one level, and a fold opens at it by `fold_out-CType` and `fold_out-Shape`.
use Rattle.std.proofs.Common.{Bool, subst}
use Rattle.cc_program.specs.declared.types.CType.{CType, roll-CType, ind-CType, map-CType}
use Rattle.cc_program.specs.declared.types.Shape.{Shape, roll-Shape, map-Shape}
use Rattle.cc_program.specs.declared.types.Shape.TheOpen as one
use Rattle.cc_program.specs.declared.types.Sig.{Sig, roll-Sig, ind-Sig, map-Sig}
use Rattle.cc_program.proofs.Each.{Each, each_kept}

abbrev pub with_shape : Bool → Bool → Shape → CType
with_shape constant volatile shape = record { constant = constant; volatile = volatile; shape = shape }

module _ (P : CType → Type 0) (Q : Sig → Type 0) where
  -- the types that a type is derived from have P or Q
  abbrev pub TypeParts : one.Shape-F Shape CType Sig → Type 0
  TypeParts one.Void = Unit {0}
  TypeParts (one.Int t) = Unit {0}
  TypeParts (one.Pointer t) = P t
  TypeParts (one.Array t n) = P t
  TypeParts (one.Struct s) = Unit {0}
  TypeParts (one.Func s) = Q s

  -- the types of the result and of the parameters have P
  abbrev pub SigParts : one.Sig-F Shape CType Sig → Type 0
  SigParts s = P s.result × Each P s.params

  -- whatever its qualifiers
  abbrev InAll : Shape → Type 0
  InAll shape = (constant volatile : Bool) → P (with_shape constant volatile shape)

  abbrev SomeShape : Type 0
  SomeShape = (s : Shape) × InAll s

  abbrev SomeType : Type 0
  SomeType = (t : CType) × P t

  abbrev SomeSig : Type 0
  SomeSig = (s : Sig) × Q s

  parts_of : (x : one.Shape-F SomeShape SomeType SomeSig) → TypeParts (map-Shape SomeShape SomeType SomeSig Shape CType Sig (λ s. s.0) (λ t. t.0) (λ s. s.0) x)
  parts_of one.Void = tt
  parts_of (one.Int t) = tt
  parts_of (one.Pointer t) = t.1
  parts_of (one.Array t n) = t.1
  parts_of (one.Struct s) = tt
  parts_of (one.Func s) = s.1

  parts_of_sig : (x : one.Sig-F SomeShape SomeType SomeSig) → SigParts (map-Sig SomeShape SomeType SomeSig Shape CType Sig (λ s. s.0) (λ t. t.0) (λ s. s.0) x)
  parts_of_sig x = (x.result.1, each_kept P x.params)

  abbrev Rolled : one.CType-F Shape CType Sig → Type 0
  Rolled x = P (roll-CType x)

  rolled_of : (x : one.CType-F SomeShape SomeType SomeSig) → Rolled (map-CType SomeShape SomeType SomeSig Shape CType Sig (λ s. s.0) (λ t. t.0) (λ s. s.0) x)
  rolled_of x = x.shape.1 x.constant x.volatile

  module _ (made : (constant volatile : Bool) (x : one.Shape-F Shape CType Sig) → TypeParts x → P (with_shape constant volatile (roll-Shape x)))
      (made_sig : (x : one.Sig-F Shape CType Sig) → SigParts x → Q (roll-Sig x)) where
    pub by_type : (t : CType) → P t
    by_type = ind-CType InAll P Q (λ x y e constant volatile. made constant volatile x (subst TypeParts e (parts_of y)))
        (λ x y e. subst Rolled e (rolled_of y)) (λ x y e. made_sig x (subst SigParts e (parts_of_sig y)))

    pub by_sig : (s : Sig) → Q s
    by_sig = ind-Sig InAll P Q (λ x y e constant volatile. made constant volatile x (subst TypeParts e (parts_of y)))
        (λ x y e. subst Rolled e (rolled_of y)) (λ x y e. made_sig x (subst SigParts e (parts_of_sig y)))
