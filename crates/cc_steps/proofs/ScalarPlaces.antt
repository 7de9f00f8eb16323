-- A scalar has no elements and no members.
use Rattle.std.proofs.Common.{◌≡◌, ℕ, Bool, true, false, Option, None, refl, if◌then◌else◌}
use Rattle.std.specs.Prelude.{List, is_some}
use Rattle.cc_cells.specs.Scalars.{before, before_part}
use Rattle.cc_program.specs.declared.types.CType.{CType}
use Rattle.cc_program.specs.declared.types.Shape.{Shape, out-Shape}
use Rattle.cc_program.specs.declared.types.Shape.TheOpen as shape
use Rattle.cc_program.specs.declared.types.Sig.{Sig}
use Rattle.cc_program.specs.declared.types.Structure.{Structure}
use Rattle.cc_program.specs.declared.value.Part.{Part}
use Rattle.cc_program.specs.declared.value.Part.TheVariants as part
use Rattle.cc_eval.specs.CcSyntax.Initial.{step_into}
use Rattle.cc_eval.specs.CcSyntax.Values.{PlaceType, scalar_shape, scalar_value, object_place, element_shape, element_of, member_shape}

module _ (structures : List Structure) where
  -- a place without elements and members
  pub record IsFlat (t : PlaceType) : Type 0 where
    pub elements : element_of t ≡ None
    pub parts : (step : Part) → step_into structures step t ≡ None
    pub first : (step : Part) → before structures step t ≡ 0

  abbrev Scalar : shape.Shape-F Shape CType Sig → Type 0
  Scalar x = is_some (scalar_shape x) ≡ true

  no_elements : (c v : Bool) (x : shape.Shape-F Shape CType Sig) → Scalar x → element_shape c v x ≡ None
  no_elements c v (shape.Int i) h = refl
  no_elements c v (shape.Pointer to) h = refl
  no_elements c v shape.Void h = absurd (cc)
  no_elements c v (shape.Array of n) h = absurd (cc)
  no_elements c v (shape.Struct s) h = absurd (cc)
  no_elements c v (shape.Func s) h = absurd (cc)

  no_members : (c v : Bool) (m : ℕ) (x : shape.Shape-F Shape CType Sig) → Scalar x → member_shape structures c v m x ≡ None
  no_members c v m (shape.Int i) h = refl
  no_members c v m (shape.Pointer to) h = refl
  no_members c v m shape.Void h = absurd (cc)
  no_members c v m (shape.Array of n) h = absurd (cc)
  no_members c v m (shape.Struct s) h = absurd (cc)
  no_members c v m (shape.Func s) h = absurd (cc)

  none_before : (step : Part) (x : shape.Shape-F Shape CType Sig) → Scalar x → before_part structures step x ≡ 0
  none_before (part.Member m) (shape.Int i) h = refl
  none_before (part.Index i) (shape.Int n) h = refl
  none_before (part.Member m) (shape.Pointer to) h = refl
  none_before (part.Index i) (shape.Pointer to) h = refl
  none_before step shape.Void h = absurd (cc)
  none_before step (shape.Array of n) h = absurd (cc)
  none_before step (shape.Struct s) h = absurd (cc)
  none_before step (shape.Func s) h = absurd (cc)

  neither : {A : Type 0} (b : Bool) (x : Option A) → x ≡ None → (if b then x else None) ≡ None
  neither true x h = h
  neither false x h = refl

  steps_nowhere : (t : CType) → Scalar (out-Shape t.shape) → (step : Part) → step_into structures step (object_place t) ≡ None
  steps_nowhere t h (part.Member m) = no_members _ _ m (out-Shape t.shape) h
  steps_nowhere t h (part.Index i) = neither _ (element_of (object_place t)) (no_elements _ _ (out-Shape t.shape) h)

  pub scalar_flat : (t : CType) → is_some (scalar_value t) ≡ true → IsFlat (object_place t)
  scalar_flat t h = record { elements = no_elements _ _ (out-Shape t.shape) h; parts = steps_nowhere t h; first = λ step. none_before step (out-Shape t.shape) h }
