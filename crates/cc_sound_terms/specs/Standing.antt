-- What specifiers, declarators, parameters and type names give stands: the types that they name may stand (C99 6.7.2 to 6.7.6).
use Rattle.std.specs.Prelude.{◌≡◌, ◌⊎◌, Bool, true, false, List, [], ◌∷◌, Some, None}
use Rattle.cc_terms.specs.CcOperands.Qualified.{plain, unqualified}
use Rattle.cc_operand_types.specs.Typed.{is_pointed_kind}
use Rattle.cc_terms.specs.CcSyntax.Views.{View, kind_in}
use Rattle.cc_program.proofs.Each.{Each}
use Rattle.cc_program.specs.declared.types.CType.{CType}
use Rattle.cc_program.specs.declared.types.Shape.{Array, out-Shape}
use Rattle.cc_program.specs.declared.types.Shape.TheOpen as shape
use Rattle.cc_terms.specs.CcScopes.State.{Scope}
use Rattle.cc_terms.specs.CcSpecifiers.Bounds.{is_bound}
use Rattle.cc_terms.specs.CcSpecifiers.declared.derivation.Derivation.{Derivation}
use Rattle.cc_terms.specs.CcSpecifiers.declared.derivation.Derivation.TheVariants as to
use Rattle.cc_terms.specs.CcSpecifiers.declared.derivation.Parameter.{Parameter}
use Rattle.cc_terms.specs.CcSpecifiers.declared.specifier.Base.{Base}
use Rattle.cc_terms.specs.CcSpecifiers.declared.specifier.Base.TheVariants as base
use Rattle.cc_terms.specs.CcSpecifiers.declared.specifier.Specifier.{Specifier}
use Rattle.cc_terms.specs.CcSpecifiers.declared.specifier.Specifier.TheVariants as specifier
use Rattle.cc_terms.specs.CcSyntax.Kinds.{is_plain_scalar, is_object_type}
use Rattle.cc_terms.specs.CcSyntax.Operators.{is_unqualified}
use Rattle.cc_terms.specs.CcSyntax.Types.{Named}
use Rattle.cc_terms.specs.CcSyntax.Values.{is_void}
use Rattle.cc_tree.specs.declared.at.At.{At}
use Rattle.cc_sound_terms.specs.Knowing.{Stands}

module _ (v : View) where
  -- a type that a declarator derives: it stands; or it is a pointer to void, where one may be; or an array without a bound, where one may be
  pub data IsDerived (void unbounded : Bool) (t : CType) : Type 0 where
    Standing : Stands v t → IsDerived void unbounded t
    VoidPointer : (to : CType) → void ≡ true → out-Shape t.shape ≡ shape.Pointer to → is_void to ≡ true → is_unqualified to ≡ true → IsDerived void unbounded t
    Unbounded : (of : CType) → unbounded ≡ true → t ≡ plain (Array of 0) → is_object_type (kind_in v of) ≡ true → IsDerived void unbounded t

  -- the type that a type name names; in a cast it may be a pointer to void
  abbrev pub IsNamedType : Bool → CType → Type 0
  IsNamedType cast t = IsDerived cast false t

  -- a parameter has a scalar type
  pub record ParameterStands (p : Parameter) : Type 0 where
    pub plain : is_plain_scalar (kind_in v (unqualified p.ctype)) ≡ true
    pub pointed : is_pointed_kind false (kind_in v p.ctype) ≡ true

  abbrev pub IsBounded : Derivation Scope → Type 0
  IsBounded (to.Pointer constant volatile) = Unit {0}
  IsBounded (to.Array None) = ⊥
  IsBounded (to.Array (Some n)) = is_bound n ≡ true
  IsBounded (to.Function ps scope) = Each ParameterStands ps

  -- next to the name a bound may be missing, where the flag says so
  abbrev pub DerivationsStand : Bool → List (At (Derivation Scope)) → Type 0
  DerivationsStand unbounded [] = Unit {0}
  DerivationsStand unbounded (d ∷ ds) = (IsBounded d.node ⊎ ((d.node ≡ to.Array None) × (unbounded ≡ true))) × Each (λ e. IsBounded e.node) ds

  abbrev pub SpecifierStands : Specifier → Type 0
  SpecifierStands (specifier.Word x) = Unit {0}
  SpecifierStands (specifier.Type t) = Stands v t
  SpecifierStands (specifier.Attributes ms) = Unit {0}

  abbrev pub BaseStands : Base → Type 0
  BaseStands (base.Words b) = Unit {0}
  BaseStands (base.Itself t) = Stands v t
  BaseStands base.Clash = Unit {0}

  -- members, as far as they are known
  abbrev pub MembersKnown : List Named → Type 0
  MembersKnown ms = Each (λ m. is_object_type (kind_in v m.1) ≡ true) ms
