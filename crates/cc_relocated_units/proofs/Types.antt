-- Types by other numbers of structures: qualifiers, values and what two types share are kept.
use Rattle.std.proofs.Common.{◌≡◌, ℕ, Bool, true, false, ◌||◌, List, Option, Some, option_map, refl, ap, sym, ◌∙◌, subst}
use Rattle.std.specs.Prelude.{if◌then◌else◌}
use Rattle.cc_program.specs.Qualifiers.{of_element, is_const, is_volatile}
use Rattle.cc_program.specs.declared.types.CType.{CType}
use Rattle.cc_program.specs.declared.types.Shape.{Shape, out-Shape, roll-Shape, out-roll-Shape}
use Rattle.cc_program.specs.declared.types.Shape.TheOpen as shape
use Rattle.cc_program.specs.declared.types.Sig.{Sig}
use Rattle.cc_program.proofs.QualifierLemmas.{const-opens, volatile-opens, parts_const, parts_volatile}
use Rattle.cc_program.proofs.TypeInduction.{with_shape, TypeParts, by_type}
use Rattle.cc_structures.proofs.WordLaws.{renumbered_level, level-renumbered, constant-kept, volatile-kept}
use Rattle.cc_operands.specs.CcSyntax.SameTypes.{same_sig, alike, is_void_shape}
use Rattle.cc_operands.specs.CcSyntax.Operators.{is_unqualified}
use Rattle.cc_operands.specs.CcSyntax.Values.{ValueType, NoValue, is_void, pointer_shape, pointer_to, scalar_shape, scalar_value, result_value, object_place}
use Rattle.cc_operands.proofs.CcSyntax.AlikeLemmas.{shares, tested}
use Rattle.cc_operands.proofs.CcSyntax.SameLemmas.{Alike, SameShape, Arrays, sig_compared}
use Rattle.cc_unit.specs.Renumbered.{type_renumbered, sig_renumbered}
use Rattle.cc_relocated_units.specs.Renumbering.{value_renumbered, place_type_renumbered}

const_at : (t : CType) (x : shape.Shape-F Shape CType Sig) → out-Shape t.shape ≡ x → is_const t ≡ (t.constant || of_element (parts_const x))
const_at t x e = const-opens t ∙ ap (λ y. t.constant || of_element (parts_const y)) e

volatile_at : (t : CType) (x : shape.Shape-F Shape CType Sig) → out-Shape t.shape ≡ x → is_volatile t ≡ (t.volatile || of_element (parts_volatile x))
volatile_at t x e = volatile-opens t ∙ ap (λ y. t.volatile || of_element (parts_volatile y)) e

module _ (numbers : List ℕ) where
  abbrev types : CType → CType
  types t = type_renumbered numbers t

  abbrev level : shape.Shape-F Shape CType Sig → shape.Shape-F Shape CType Sig
  level x = renumbered_level numbers x

  -- ---- qualifiers

  record IsKept (t : CType) : Type 0 where
    const : is_const (types t) ≡ is_const t
    volat : is_volatile (types t) ≡ is_volatile t

  level_const : (x : shape.Shape-F Shape CType Sig) → TypeParts IsKept (λ s. Unit {0}) x → of_element (parts_const (level x)) ≡ of_element (parts_const x)
  level_const shape.Void h = refl
  level_const (shape.Int t) h = refl
  level_const (shape.Pointer to) h = refl
  level_const (shape.Array of n) h = h.const
  level_const (shape.Struct i) h = refl
  level_const (shape.Func s) h = refl

  level_volatile : (x : shape.Shape-F Shape CType Sig) → TypeParts IsKept (λ s. Unit {0}) x → of_element (parts_volatile (level x)) ≡ of_element (parts_volatile x)
  level_volatile shape.Void h = refl
  level_volatile (shape.Int t) h = refl
  level_volatile (shape.Pointer to) h = refl
  level_volatile (shape.Array of n) h = h.volat
  level_volatile (shape.Struct i) h = refl
  level_volatile (shape.Func s) h = refl

  made : (t : CType) (x : shape.Shape-F Shape CType Sig) → out-Shape t.shape ≡ x → TypeParts IsKept (λ s. Unit {0}) x → IsKept t
  made t x e h = record {
    const = const_at (types t) (level x) (level-renumbered numbers t x e)
        ∙ (ap (λ (b : Bool). b || of_element (parts_const (level x))) (constant-kept numbers t) ∙ (ap (λ (b : Bool). t.constant || b) (level_const x h) ∙ sym (const_at t x e)));
    volat = volatile_at (types t) (level x) (level-renumbered numbers t x e)
        ∙ (ap (λ (b : Bool). b || of_element (parts_volatile (level x))) (volatile-kept numbers t) ∙ (ap (λ (b : Bool). t.volatile || b) (level_volatile x h) ∙ sym (volatile_at t x e)));
  }

  is_kept : (t : CType) → IsKept t
  is_kept = by_type IsKept (λ s. Unit {0}) (λ constant volatile x h. made (with_shape constant volatile (roll-Shape x)) x (out-roll-Shape x) h) (λ x h. tt)

  pub const_kept : (t : CType) → is_const (types t) ≡ is_const t
  const_kept t = (is_kept t).const

  pub volatile_kept : (t : CType) → is_volatile (types t) ≡ is_volatile t
  volatile_kept t = (is_kept t).volat

  pub unqualified_kept : (t : CType) → is_unqualified (types t) ≡ is_unqualified t
  unqualified_kept t = rw (constant-kept numbers t, volatile-kept numbers t) refl

  -- ---- what two types share

  alike_of : (t u : CType) → Alike t u → Alike (types t) (types u)
  alike_of _ _ (SameShape t u e) = SameShape (types t) (types u) (level-renumbered numbers t (out-Shape u.shape) e ∙ sym (level-renumbered numbers u (out-Shape u.shape) refl))
  alike_of _ _ (Arrays t u of other n e f h) = Arrays (types t) (types u) (types of) (types other) n (level-renumbered numbers t (shape.Array of n) e) (level-renumbered numbers u (shape.Array other n) f) (alike_of of other h)

  pub alike_kept : (t u : CType) → alike t u ≡ true → alike (types t) (types u) ≡ true
  alike_kept t u h = tested (types t) (types u) (alike_of t u (shares t u h))

  pub sig_kept : (s u : Sig) → same_sig s u ≡ true → same_sig (sig_renumbered numbers s) (sig_renumbered numbers u) ≡ true
  sig_kept s u h = subst (λ (z : Sig). same_sig (sig_renumbered numbers s) (sig_renumbered numbers z) ≡ true) ((sig_compared s).same u h) (sig_compared (sig_renumbered numbers s)).itself

  -- ---- values

  void_level : (x : shape.Shape-F Shape CType Sig) → is_void_shape (level x) ≡ is_void_shape x
  void_level shape.Void = refl
  void_level (shape.Int t) = refl
  void_level (shape.Pointer to) = refl
  void_level (shape.Array of n) = refl
  void_level (shape.Struct i) = refl
  void_level (shape.Func s) = refl

  pub void_kept : (t : CType) → is_void (types t) ≡ is_void t
  void_kept t = ap is_void_shape (level-renumbered numbers t (out-Shape t.shape) refl) ∙ void_level (out-Shape t.shape)

  pointer_level : (t : CType) (x : shape.Shape-F Shape CType Sig) → pointer_shape (types t) (level x) ≡ value_renumbered numbers (pointer_shape t x)
  pointer_level t (shape.Func s) = refl
  pointer_level t shape.Void = rw (const_kept t, volatile_kept t) refl
  pointer_level t (shape.Int i) = rw (const_kept t, volatile_kept t) refl
  pointer_level t (shape.Pointer to) = rw (const_kept t, volatile_kept t) refl
  pointer_level t (shape.Array of n) = rw (const_kept t, volatile_kept t) refl
  pointer_level t (shape.Struct i) = rw (const_kept t, volatile_kept t) refl

  pub pointer_kept : (t : CType) → pointer_to (types t) ≡ value_renumbered numbers (pointer_to t)
  pointer_kept t = ap (pointer_shape (types t)) (level-renumbered numbers t (out-Shape t.shape) refl) ∙ pointer_level t (out-Shape t.shape)

  scalar_level : (x : shape.Shape-F Shape CType Sig) → scalar_shape (level x) ≡ option_map (value_renumbered numbers) (scalar_shape x)
  scalar_level (shape.Int t) = refl
  scalar_level (shape.Pointer to) = ap (λ (v : ValueType). Some v) (pointer_kept to)
  scalar_level shape.Void = refl
  scalar_level (shape.Array of n) = refl
  scalar_level (shape.Struct i) = refl
  scalar_level (shape.Func s) = refl

  pub scalar_kept : (t : CType) → scalar_value (types t) ≡ option_map (value_renumbered numbers) (scalar_value t)
  scalar_kept t = ap scalar_shape (level-renumbered numbers t (out-Shape t.shape) refl) ∙ scalar_level (out-Shape t.shape)

  result_by : (b : Bool) (x : Option ValueType) → (if b then Some NoValue else option_map (value_renumbered numbers) x) ≡ option_map (value_renumbered numbers) (if b then Some NoValue else x)
  result_by true x = refl
  result_by false x = refl

  pub result_kept : (t : CType) → result_value (types t) ≡ option_map (value_renumbered numbers) (result_value t)
  result_kept t =
      ap (λ (b : Bool). if b then Some NoValue else scalar_value (types t)) (void_kept t)
      ∙ (ap (λ (x : Option ValueType). if is_void t then Some NoValue else x) (scalar_kept t) ∙ result_by (is_void t) (scalar_value t))

  pub object_kept : (t : CType) → object_place (types t) ≡ place_type_renumbered numbers (object_place t)
  object_kept t = rw (const_kept t, volatile_kept t) refl
