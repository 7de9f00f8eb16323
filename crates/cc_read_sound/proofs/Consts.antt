-- A type without the const of its objects is not const, where it may stand.
use Rattle.std.proofs.Common.{◌≡◌, ℕ, Bool, true, false, ◌||◌, List, [], ◌∷◌, map, Option, Some, None, refl, ap, sym, ◌∙◌}
use Rattle.cc_operand_types.proofs.Requalified.{IsElement, arrayed, element_kind, kind_at, opens_as}
use Rattle.cc_type.specs.CcOperands.Qualified.{at_element, no_const, without_const}
use Rattle.cc_program.proofs.QualifierLemmas.{const-opens, parts_const}
use Rattle.cc_program.proofs.TypeInduction.{with_shape, TypeParts, by_type}
use Rattle.cc_program.specs.Qualifiers.{is_const, of_element}
use Rattle.cc_program.specs.declared.types.CType.{CType}
use Rattle.cc_program.specs.declared.types.Shape.{Shape, Array, out-Shape, roll-Shape, out-roll-Shape}
use Rattle.cc_program.specs.declared.types.Shape.TheOpen as shape
use Rattle.cc_program.specs.declared.types.Shape.TheVariants.{outs-Array}
use Rattle.cc_program.specs.declared.types.Sig.{Sig}
use Rattle.cc_type.specs.CcSyntax.Kinds.{Kind, is_object_type, qualified_kind}
use Rattle.cc_type.specs.CcSyntax.Views.{View, kind_in}

const_at : (t : CType) (x : shape.Shape-F Shape CType Sig) → out-Shape t.shape ≡ x → is_const t ≡ (t.constant || of_element (parts_const x))
const_at t x e = const-opens t ∙ ap (λ y. t.constant || of_element (parts_const y)) e

first_false : (a b : Bool) → a || b ≡ false → a ≡ false
first_false false b h = refl
first_false true b h = absurd (cc)

module _ (v : View) where
  abbrev Unconst : CType → Type 0
  Unconst t = (k : Kind) → kind_in v t ≡ Some k → is_const (without_const t) ≡ false

  simple : (t : CType) (x : shape.Shape-F Shape CType Sig) → out-Shape t.shape ≡ x → of_element (parts_const x) ≡ false → without_const t ≡ no_const t → Unconst t
  simple t x e f g k h = ap is_const g ∙ const_at (no_const t) x e ∙ f

  abbrev of_type : CType → CType → ℕ → CType
  of_type t of n = record { constant = t.constant; volatile = t.volatile; shape = Array of n }

  array_opens : (t of : CType) (n : ℕ) → out-Shape t.shape ≡ shape.Array of n → without_const t ≡ of_type t (without_const of) n
  unfolding at_element
  array_opens t of n e = opens_as no_const t (shape.Array of n) e

  element_there : (q : Bool) (n : ℕ) (o : Option Kind) (k : Kind) → qualified_kind q (arrayed v n o) ≡ Some k → (e : Kind) × (o ≡ Some e) × (q ≡ false)
  element_there q n None k h = absurd (cc)
  element_there q n (Some e) k h = (e, refl, (element_kind v q n k e h).plain)

  array_unconst : (t of : CType) (n : ℕ) → out-Shape t.shape ≡ shape.Array of n → Unconst of → Unconst t
  array_unconst t of n e f k h =
      let c = element_there (t.constant || t.volatile) n (kind_in v of) k (sym (kind_at v t (shape.Array of n) e) ∙ h) in
      ap is_const (array_opens t of n e) ∙ const_at (of_type t (without_const of) n) (shape.Array (without_const of) n) (outs-Array (without_const of) n)
      ∙ ap (λ (b : Bool). b || is_const (without_const of)) (first_false t.constant t.volatile c.2) ∙ f c.0 c.1

  unconst_at : (t : CType) (x : shape.Shape-F Shape CType Sig) → out-Shape t.shape ≡ x → TypeParts Unconst (λ s. Unit {0}) x → Unconst t
  unconst_at t shape.Void e h = simple t shape.Void e refl (opens_as no_const t shape.Void e)
  unconst_at t (shape.Int i) e h = simple t (shape.Int i) e refl (opens_as no_const t (shape.Int i) e)
  unconst_at t (shape.Pointer to) e h = simple t (shape.Pointer to) e refl (opens_as no_const t (shape.Pointer to) e)
  unconst_at t (shape.Struct i) e h = simple t (shape.Struct i) e refl (opens_as no_const t (shape.Struct i) e)
  unconst_at t (shape.Func s) e h = simple t (shape.Func s) e refl (opens_as no_const t (shape.Func s) e)
  unconst_at t (shape.Array of n) e h = array_unconst t of n e h

  kind_unconst : (t : CType) → Unconst t
  kind_unconst = by_type Unconst (λ s. Unit {0}) (λ c w x h. unconst_at (with_shape c w (roll-Shape x)) x (out-roll-Shape x) h) (λ x h. tt)

  object_by : (t : CType) (o : Option Kind) → kind_in v t ≡ o → is_object_type o ≡ true → is_const (without_const t) ≡ false
  object_by t None e h = absurd (cc)
  object_by t (Some k) e h = kind_unconst t k e

  pub object_unconst : (t : CType) → is_object_type (kind_in v t) ≡ true → is_const (without_const t) ≡ false
  object_unconst t h = object_by t (kind_in v t) refl h
