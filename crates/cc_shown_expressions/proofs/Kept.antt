-- What types keep whose structures have other numbers: whether they are const and volatile, what they have in common with
-- others, and what values and places of them have as their types.
use Rattle.std.proofs.Common.{◌≡◌, ℕ, Bool, true, false, ◌&&◌, ◌||◌, Some, refl, ap, sym, ◌∙◌, subst}
use Rattle.std.specs.Prelude.{option_map}
use Rattle.cc_program.specs.Qualifiers.{of_element, is_const, is_volatile}
use Rattle.cc_program.specs.declared.types.CType.{CType}
use Rattle.cc_program.specs.declared.types.Shape.{Shape, out-Shape, roll-Shape, out-roll-Shape}
use Rattle.cc_program.specs.declared.types.Shape.TheOpen as shape
use Rattle.cc_program.specs.declared.types.Sig.{Sig}
use Rattle.cc_program.proofs.QualifierLemmas.{parts_const, parts_volatile, const-opens, volatile-opens}
use Rattle.cc_program.proofs.TypeInduction.{with_shape, TypeParts, by_type}
use Rattle.cc_terms.specs.CcSyntax.SameTypes.{alike, same_sig, is_void_shape}
use Rattle.cc_terms.specs.CcSyntax.Values.{ValueType, NoValue, Integer, ToObject, ToFunction, PlaceType, DevicePlace, ObjectPlace, FunctionPlace, pointer_shape, pointer_to, scalar_shape, scalar_value, result_value, is_void, is_scalar, object_place, read_from, written_to, address_of, pointed_to, element_shape, element_of, point_alike, implies, is_assignable}
use Rattle.cc_terms.proofs.CcSyntax.AlikeLemmas.{shares, same_shape_alike}
use Rattle.cc_terms.proofs.CcSyntax.Prefixes.{both_true}
use Rattle.cc_terms.proofs.CcSyntax.SameLemmas.{Alike, SameShape, Arrays, arrays_compared, sig_compared, and_true}
use Rattle.cc_shown_expressions.specs.Numbers.{type_numbered, sig_numbered, value_numbered, place_type_numbered}
use Rattle.cc_shown_expressions.proofs.Numbering.{level, shape-level, level-at, constant-kept, volatile-kept}

module _ (number : ℕ → ℕ) where
  abbrev numbered : CType → CType
  numbered t = type_numbered number t

  -- ---- qualifiers

  abbrev Keeps : CType → Type 0
  Keeps t = (is_const (numbered t) ≡ is_const t) × (is_volatile (numbered t) ≡ is_volatile t)

  abbrev NoClaim : Sig → Type 0
  NoClaim s = Unit {0}

  elements-keep : (x : shape.Shape-F Shape CType Sig) → TypeParts Keeps NoClaim x →
      (of_element (parts_const (level number x)) ≡ of_element (parts_const x)) × (of_element (parts_volatile (level number x)) ≡ of_element (parts_volatile x))
  elements-keep shape.Void h = (refl, refl)
  elements-keep (shape.Int t) h = (refl, refl)
  elements-keep (shape.Pointer to) h = (refl, refl)
  elements-keep (shape.Array of n) h = h
  elements-keep (shape.Struct i) h = (refl, refl)
  elements-keep (shape.Func sig) h = (refl, refl)

  keeps-at : (t : CType) (x : shape.Shape-F Shape CType Sig) → out-Shape t.shape ≡ x → TypeParts Keeps NoClaim x → Keeps t
  keeps-at t x e h = (
    const-opens (numbered t) ∙ ap (λ y. (numbered t).constant || of_element (parts_const y)) (level-at number t x e) ∙ ap (λ b. b || of_element (parts_const (level number x))) (constant-kept number t)
        ∙ ap (λ b. t.constant || b) (elements-keep x h).0 ∙ sym (const-opens t ∙ ap (λ y. t.constant || of_element (parts_const y)) e),
    volatile-opens (numbered t) ∙ ap (λ y. (numbered t).volatile || of_element (parts_volatile y)) (level-at number t x e) ∙ ap (λ b. b || of_element (parts_volatile (level number x))) (volatile-kept number t)
        ∙ ap (λ b. t.volatile || b) (elements-keep x h).1 ∙ sym (volatile-opens t ∙ ap (λ y. t.volatile || of_element (parts_volatile y)) e),
  )

  keeps : (t : CType) → Keeps t
  keeps = by_type Keeps NoClaim (λ constant volatile x h. keeps-at (with_shape constant volatile (roll-Shape x)) x (out-roll-Shape x) h) (λ x h. tt)

  pub const-numbered : (t : CType) → is_const (numbered t) ≡ is_const t
  const-numbered t = (keeps t).0

  pub volatile-numbered : (t : CType) → is_volatile (numbered t) ≡ is_volatile t
  volatile-numbered t = (keeps t).1

  -- ---- what is one type

  alike-shares : (t u : CType) → Alike t u → alike (numbered t) (numbered u) ≡ true
  alike-shares _ _ (SameShape t u e) = same_shape_alike (numbered t) (numbered u) (level-at number t (out-Shape u.shape) e ∙ sym (shape-level number u))
  alike-shares _ _ (Arrays t u of other n e f h) =
      arrays_compared (numbered t) (numbered u) (numbered of) (numbered other) n (level-at number t (shape.Array of n) e) (level-at number u (shape.Array other n) f) (alike-shares of other h)

  pub alike-numbered : (t u : CType) → alike t u ≡ true → alike (numbered t) (numbered u) ≡ true
  alike-numbered t u h = alike-shares t u (shares t u h)

  pub sig-numbered : (s u : Sig) → same_sig s u ≡ true → same_sig (sig_numbered number s) (sig_numbered number u) ≡ true
  sig-numbered s u h = subst (λ (v : Sig). same_sig (sig_numbered number s) (sig_numbered number v) ≡ true) ((sig_compared s).same u h) (sig_compared (sig_numbered number s)).itself

  -- ---- the types of values and places

  abbrev value : ValueType → ValueType
  value t = value_numbered number t

  abbrev place : PlaceType → PlaceType
  place a = place_type_numbered number a

  void-level : (x : shape.Shape-F Shape CType Sig) → is_void_shape (level number x) ≡ is_void_shape x
  void-level shape.Void = refl
  void-level (shape.Int t) = refl
  void-level (shape.Pointer to) = refl
  void-level (shape.Array of n) = refl
  void-level (shape.Struct i) = refl
  void-level (shape.Func sig) = refl

  pub void-numbered : (t : CType) → is_void (numbered t) ≡ is_void t
  void-numbered t = ap is_void_shape (shape-level number t) ∙ void-level (out-Shape t.shape)

  pointer-level : (t : CType) (x : shape.Shape-F Shape CType Sig) → pointer_shape (numbered t) (level number x) ≡ value (pointer_shape t x)
  pointer-level t (shape.Func sig) = refl
  pointer-level t shape.Void = rw (const-numbered t, volatile-numbered t) refl
  pointer-level t (shape.Int i) = rw (const-numbered t, volatile-numbered t) refl
  pointer-level t (shape.Pointer to) = rw (const-numbered t, volatile-numbered t) refl
  pointer-level t (shape.Array of n) = rw (const-numbered t, volatile-numbered t) refl
  pointer-level t (shape.Struct s) = rw (const-numbered t, volatile-numbered t) refl

  pub pointer-numbered : (t : CType) → pointer_to (numbered t) ≡ value (pointer_to t)
  pointer-numbered t = ap (pointer_shape (numbered t)) (shape-level number t) ∙ pointer-level t (out-Shape t.shape)

  scalar-level : (x : shape.Shape-F Shape CType Sig) → scalar_shape (level number x) ≡ option_map value (scalar_shape x)
  scalar-level shape.Void = refl
  scalar-level (shape.Int t) = refl
  scalar-level (shape.Pointer to) = ap (λ (t : ValueType). Some t) (pointer-numbered to)
  scalar-level (shape.Array of n) = refl
  scalar-level (shape.Struct i) = refl
  scalar-level (shape.Func sig) = refl

  pub scalar-numbered : (t : CType) → scalar_value (numbered t) ≡ option_map value (scalar_value t)
  scalar-numbered t = ap scalar_shape (shape-level number t) ∙ scalar-level (out-Shape t.shape)

  pub scalar-at : (t : CType) (v : ValueType) → scalar_value t ≡ Some v → scalar_value (numbered t) ≡ Some (value v)
  scalar-at t v e = scalar-numbered t ∙ ap (option_map value) e

  result-by : (b : Bool) (t : CType) (v : ValueType) → is_void t ≡ b → result_value t ≡ Some v → result_value (numbered t) ≡ Some (value v)
  result-by true t v e h = let f : result_value t ≡ Some NoValue = rw e refl in let g : v ≡ NoValue = cc in rw (void-numbered t, e, g) refl
  result-by false t v e h = let f : scalar_value t ≡ Some v = rw e at h in rw (void-numbered t, e) (scalar-at t v f)

  pub result-at : (t : CType) (v : ValueType) → result_value t ≡ Some v → result_value (numbered t) ≡ Some (value v)
  result-at t v h = result-by (is_void t) t v refl h

  pub object-numbered : (t : CType) → object_place (numbered t) ≡ place (object_place t)
  object-numbered t = rw (const-numbered t, volatile-numbered t) refl

  pub read-at : (a : PlaceType) (v : ValueType) → read_from a ≡ Some v → read_from (place a) ≡ Some (value v)
  read-at (DevicePlace constant t) v h = let e : v ≡ Integer t = cc in rw e refl
  read-at (ObjectPlace constant volatile t) v h = scalar-at t v h
  read-at (FunctionPlace sig) v h = absurd (cc)

  pub written-at : (a : PlaceType) (v : ValueType) → written_to a ≡ Some v → written_to (place a) ≡ Some (value v)
  written-at (DevicePlace true t) v h = absurd (cc)
  written-at (DevicePlace false t) v h = let e : v ≡ Integer t = cc in rw e refl
  written-at (ObjectPlace true volatile t) v h = absurd (cc)
  written-at (ObjectPlace false volatile t) v h = scalar-at t v h
  written-at (FunctionPlace sig) v h = absurd (cc)

  pub address-at : (a : PlaceType) (v : ValueType) → address_of a ≡ Some v → address_of (place a) ≡ Some (value v)
  address-at (DevicePlace constant t) v h = absurd (cc)
  address-at (ObjectPlace constant volatile t) v h = let e : v ≡ ToObject constant volatile t = cc in rw e refl
  address-at (FunctionPlace sig) v h = let e : v ≡ ToFunction sig = cc in rw e refl

  pointed-by : (b constant volatile : Bool) (t : CType) (a : PlaceType) → is_void t ≡ b → pointed_to (ToObject constant volatile t) ≡ Some a → pointed_to (ToObject constant volatile (numbered t)) ≡ Some (place a)
  pointed-by true constant volatile t a e h = absurd (cc (rw e at h))
  pointed-by false constant volatile t a e h =
      let f : Some (ObjectPlace constant volatile t) ≡ Some a = rw e at h in
      let g : a ≡ ObjectPlace constant volatile t = cc in
      rw (void-numbered t, e, g) refl

  pub pointed-at : (v : ValueType) (a : PlaceType) → pointed_to v ≡ Some a → pointed_to (value v) ≡ Some (place a)
  pointed-at NoValue a h = absurd (cc)
  pointed-at (Integer t) a h = absurd (cc)
  pointed-at (ToObject constant volatile t) a h = pointed-by (is_void t) constant volatile t a refl h
  pointed-at (ToFunction sig) a h = let e : a ≡ FunctionPlace sig = cc in rw e refl

  element-level : (constant volatile : Bool) (x : shape.Shape-F Shape CType Sig) (a : PlaceType) → element_shape constant volatile x ≡ Some a → element_shape constant volatile (level number x) ≡ Some (place a)
  element-level constant volatile (shape.Array of n) a h = let e : a ≡ ObjectPlace constant volatile of = cc in rw e refl
  element-level constant volatile shape.Void a h = absurd (cc)
  element-level constant volatile (shape.Int t) a h = absurd (cc)
  element-level constant volatile (shape.Pointer to) a h = absurd (cc)
  element-level constant volatile (shape.Struct s) a h = absurd (cc)
  element-level constant volatile (shape.Func sig) a h = absurd (cc)

  pub element-at : (a b : PlaceType) → element_of a ≡ Some b → element_of (place a) ≡ Some (place b)
  element-at (DevicePlace constant t) b h = absurd (cc)
  element-at (ObjectPlace constant volatile t) b h = ap (element_shape constant volatile) (shape-level number t) ∙ element-level constant volatile (out-Shape t.shape) b h
  element-at (FunctionPlace sig) b h = absurd (cc)

  -- ---- pointers to one type, and what may be assigned

  pub point-numbered : (a b : ValueType) → point_alike a b ≡ true → point_alike (value a) (value b) ≡ true
  point-numbered NoValue b h = absurd (cc)
  point-numbered (Integer t) b h = absurd (cc)
  point-numbered (ToObject c v t) NoValue h = absurd (cc)
  point-numbered (ToObject c v t) (Integer s) h = absurd (cc)
  point-numbered (ToObject c v t) (ToObject c' v' u) h = alike-numbered t u h
  point-numbered (ToObject c v t) (ToFunction sig) h = absurd (cc)
  point-numbered (ToFunction s) NoValue h = absurd (cc)
  point-numbered (ToFunction s) (Integer t) h = absurd (cc)
  point-numbered (ToFunction s) (ToObject c v t) h = absurd (cc)
  point-numbered (ToFunction s) (ToFunction t) h = sig-numbered s t h

  pub assignable-numbered : (a b : ValueType) → is_assignable a b ≡ true → is_assignable (value a) (value b) ≡ true
  assignable-numbered NoValue b h = absurd (cc)
  assignable-numbered (Integer s) NoValue h = absurd (cc)
  assignable-numbered (Integer s) (Integer t) h = h
  assignable-numbered (Integer s) (ToObject c v t) h = absurd (cc)
  assignable-numbered (Integer s) (ToFunction sig) h = absurd (cc)
  assignable-numbered (ToObject c v t) NoValue h = absurd (cc)
  assignable-numbered (ToObject c v t) (Integer s) h = absurd (cc)
  assignable-numbered (ToObject c v t) (ToObject c' v' u) h =
      let k = both_true (alike t u) (implies c' c && implies v' v) h in
      and_true (alike (numbered t) (numbered u)) (implies c' c && implies v' v) (alike-numbered t u k.0) k.1
  assignable-numbered (ToObject c v t) (ToFunction sig) h = absurd (cc)
  assignable-numbered (ToFunction s) NoValue h = absurd (cc)
  assignable-numbered (ToFunction s) (Integer t) h = absurd (cc)
  assignable-numbered (ToFunction s) (ToObject c v t) h = absurd (cc)
  assignable-numbered (ToFunction s) (ToFunction t) h = sig-numbered s t h

  pub scalar-stays : (v : ValueType) → is_scalar v ≡ true → is_scalar (value v) ≡ true
  scalar-stays NoValue h = h
  scalar-stays (Integer t) h = h
  scalar-stays (ToObject c v t) h = h
  scalar-stays (ToFunction sig) h = h
