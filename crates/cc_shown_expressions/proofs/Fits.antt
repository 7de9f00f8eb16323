-- Pointers in a program point to types that may stand in it, or are nulls of pointers to plain void.
use Rattle.std.proofs.Common.{◌≡◌, ℕ, Bool, true, false, not, ◌&&◌, ◌||◌, length, List, Option, Some, None, refl, ap, sym, ◌∙◌, subst, slice_get}
use Rattle.std.specs.Prelude.{if◌then◌else◌}
use Rattle.std.specs.Option.{is_some}
use Rattle.cc_program.specs.CcNum.declared.target.Target.{Target}
use Rattle.cc_terms.specs.CcOperands.Operands.{is_pointer, is_to_void}
use Rattle.cc_program.specs.Qualifiers.{of_element, is_const, is_volatile}
use Rattle.cc_program.specs.declared.func.Func.{Func}
use Rattle.cc_program.specs.declared.program.Program.{Program}
use Rattle.cc_program.specs.declared.types.CType.{CType}
use Rattle.cc_program.specs.declared.types.Shape.{Shape, out-Shape}
use Rattle.cc_program.specs.declared.types.Shape.TheOpen as shape
use Rattle.cc_program.specs.declared.types.Sig.{Sig}
use Rattle.cc_program.specs.declared.types.Structure.{Structure}
use Rattle.cc_program.proofs.QualifierLemmas.{const-opens, volatile-opens, parts_const, parts_volatile}
use Rattle.cc_terms.specs.CcSyntax.Kinds.{Kind, IsVoid, IsScalar, IsStructure, IsArray, IsIncomplete, IsFunction, bytes_in, is_object_type, is_plain_scalar}
use Rattle.cc_terms.specs.CcSyntax.Programs.{kind_in}
use Rattle.cc_terms.specs.CcSyntax.Operators.{common_type}
use Rattle.cc_terms.specs.CcSyntax.SameTypes.{is_void_shape, same_sig, alike}
use Rattle.cc_terms.specs.CcSyntax.Types.{Named}
use Rattle.cc_terms.specs.CcSyntax.Values.{ValueType, NoValue, Integer, ToObject, ToFunction, PlaceType, DevicePlace, ObjectPlace, FunctionPlace, pointer_shape, pointer_to, scalar_shape, scalar_value, is_void, object_place, read_from, address_of, pointed_to, element_shape, element_of, member_at, member_in, member_shape, member_of}
use Rattle.cc_shown_expressions.specs.Fits.{FitsPlace, FitsValue}
use Rattle.cc_shown_expressions.specs.KnownNames.{TypesStand}
use Rattle.cc_shown_expressions.proofs.PlaceParts.{NullIs, ToVoid, ToOther, PointerIs}
use Rattle.cc_shown_expressions.proofs.Standing.{Stands, kind-at, pointed-stands, pointed-not-void, IsElement, element-is, element-stands, scalar-stands}

or-false : (b : Bool) → (b || false) ≡ b
or-false true = refl
or-false false = refl

abbrev is_void_kind : Option Kind → Bool
is_void_kind None = false
is_void_kind (Some IsVoid) = true
is_void_kind (Some (IsScalar q n)) = false
is_void_kind (Some (IsStructure n)) = false
is_void_kind (Some (IsArray n)) = false
is_void_kind (Some IsIncomplete) = false
is_void_kind (Some IsFunction) = false

module _ (p : Program) where
  object-fits : (c v : Bool) (t : CType) → is_void t ≡ false → Stands p t → FitsValue p (ToObject c v t)
  object-fits c v t h k = ((λ e. let g : true ≡ false = sym e ∙ h in absurd (cc)), λ e. k)

  pointer-by : (t : CType) (x : shape.Shape-F Shape CType Sig) → is_void t ≡ false → Stands p t → FitsValue p (pointer_shape t x)
  pointer-by t (shape.Func s) h k = tt
  pointer-by t shape.Void h k = object-fits (is_const t) (is_volatile t) t h k
  pointer-by t (shape.Int i) h k = object-fits (is_const t) (is_volatile t) t h k
  pointer-by t (shape.Pointer to) h k = object-fits (is_const t) (is_volatile t) t h k
  pointer-by t (shape.Array of n) h k = object-fits (is_const t) (is_volatile t) t h k
  pointer-by t (shape.Struct i) h k = object-fits (is_const t) (is_volatile t) t h k

  pub pointer-fits : (t : CType) → is_void t ≡ false → Stands p t → FitsValue p (pointer_to t)
  pointer-fits t h k = pointer-by t (out-Shape t.shape) h k

  -- of a pointer type that stands
  pub pointed-fits : (t to : CType) → out-Shape t.shape ≡ shape.Pointer to → Stands p t → FitsValue p (pointer_to to)
  pointed-fits t to e h = pointer-fits to (pointed-not-void p t to e h) (pointed-stands p t to e h)

  -- ---- objects

  object-some : (k : Option Kind) → is_object_type k ≡ true → is_some k ≡ true
  object-some None h = absurd (cc)
  object-some (Some k) h = refl

  object-not-void : (t : CType) (x : shape.Shape-F Shape CType Sig) → out-Shape t.shape ≡ x → is_object_type (kind_in p t) ≡ true → is_void_shape x ≡ false
  object-not-void t shape.Void e h = let g : false ≡ true = sym (ap is_object_type (kind-at p t shape.Void e)) ∙ h in absurd (cc)
  object-not-void t (shape.Int i) e h = refl
  object-not-void t (shape.Pointer to) e h = refl
  object-not-void t (shape.Array of n) e h = refl
  object-not-void t (shape.Struct i) e h = refl
  object-not-void t (shape.Func s) e h = refl

  pub object-place-fits : (t : CType) → is_object_type (kind_in p t) ≡ true → FitsPlace p (object_place t)
  object-place-fits t h = (object-not-void t (out-Shape t.shape) refl h, object-some (kind_in p t) h)

  -- ---- what is read, and addresses

  scalar-fits : (t : CType) (x : shape.Shape-F Shape CType Sig) (v : ValueType) → out-Shape t.shape ≡ x → Stands p t → scalar_shape x ≡ Some v → FitsValue p v
  scalar-fits t (shape.Int i) v e h k = let g : Integer i ≡ v = cc in subst (FitsValue p) g tt
  scalar-fits t (shape.Pointer to) v e h k = let g : pointer_to to ≡ v = cc in subst (FitsValue p) g (pointed-fits t to e h)
  scalar-fits t shape.Void v e h k = absurd (cc)
  scalar-fits t (shape.Array of n) v e h k = absurd (cc)
  scalar-fits t (shape.Struct i) v e h k = absurd (cc)
  scalar-fits t (shape.Func s) v e h k = absurd (cc)

  pub read-fits : (a : PlaceType) (v : ValueType) → FitsPlace p a → read_from a ≡ Some v → FitsValue p v
  read-fits (DevicePlace c t) v h k = let g : Integer t ≡ v = cc in subst (FitsValue p) g tt
  read-fits (ObjectPlace c v t) w h k = scalar-fits t (out-Shape t.shape) w refl h.1 k
  read-fits (FunctionPlace s) v h k = absurd (cc)

  pub address-fits : (a : PlaceType) (v : ValueType) → FitsPlace p a → address_of a ≡ Some v → FitsValue p v
  address-fits (DevicePlace c t) v h k = absurd (cc)
  address-fits (ObjectPlace c v t) w h k = let g : ToObject c v t ≡ w = cc in subst (FitsValue p) g (object-fits c v t h.0 h.1)
  address-fits (FunctionPlace s) v h k = let g : ToFunction s ≡ v = cc in subst (FitsValue p) g tt

  deref-by : (c v : Bool) (t : CType) (a : PlaceType) (b : Bool) → is_void t ≡ b → FitsValue p (ToObject c v t) → (if b then None else Some (ObjectPlace c v t)) ≡ Some a → FitsPlace p a
  deref-by c v t a true e h k = absurd (cc)
  deref-by c v t a false e h k = let g : ObjectPlace c v t ≡ a = cc in subst (FitsPlace p) g (e, h.1 e)

  pub deref-fits : (v : ValueType) (a : PlaceType) → FitsValue p v → pointed_to v ≡ Some a → FitsPlace p a
  deref-fits NoValue a h k = absurd (cc)
  deref-fits (Integer t) a h k = absurd (cc)
  deref-fits (ToObject c v t) a h k = deref-by c v t a (is_void t) refl h k
  deref-fits (ToFunction s) a h k = let g : FunctionPlace s ≡ a = cc in subst (FitsPlace p) g tt

  -- ---- elements and members

  bytes-object : (k : Kind) (n : ℕ) → bytes_in k ≡ Some n → is_void_kind (Some k) ≡ false
  bytes-object IsVoid n h = absurd (cc)
  bytes-object (IsScalar q m) n h = refl
  bytes-object (IsStructure m) n h = refl
  bytes-object (IsArray m) n h = refl
  bytes-object IsIncomplete n h = refl
  bytes-object IsFunction n h = refl

  element-not-void : (t : CType) (x : shape.Shape-F Shape CType Sig) (k : Kind) (n : ℕ) → out-Shape t.shape ≡ x → kind_in p t ≡ Some k → bytes_in k ≡ Some n → is_void_shape x ≡ false
  element-not-void t shape.Void k n e h b = let g : true ≡ false = sym (ap is_void_kind (sym h ∙ kind-at p t shape.Void e)) ∙ bytes-object k n b in absurd (cc)
  element-not-void t (shape.Int i) k n e h b = refl
  element-not-void t (shape.Pointer to) k n e h b = refl
  element-not-void t (shape.Array of m) k n e h b = refl
  element-not-void t (shape.Struct i) k n e h b = refl
  element-not-void t (shape.Func s) k n e h b = refl

  element-by : (c v : Bool) (t : CType) (x : shape.Shape-F Shape CType Sig) (a : PlaceType) → out-Shape t.shape ≡ x → Stands p t → element_shape c v x ≡ Some a → FitsPlace p a
  element-by c v t (shape.Array of n) a e h k =
      let i = element-is p t of n e h in
      let g : ObjectPlace c v of ≡ a = cc in
      subst (FitsPlace p) g (element-not-void of (out-Shape of.shape) i.kind i.size refl i.is i.bytes, element-stands p t of n e h)
  element-by c v t shape.Void a e h k = absurd (cc)
  element-by c v t (shape.Int i) a e h k = absurd (cc)
  element-by c v t (shape.Pointer to) a e h k = absurd (cc)
  element-by c v t (shape.Struct i) a e h k = absurd (cc)
  element-by c v t (shape.Func s) a e h k = absurd (cc)

  pub element-fits : (a b : PlaceType) → FitsPlace p a → element_of a ≡ Some b → FitsPlace p b
  element-fits (DevicePlace c t) b h k = absurd (cc)
  element-fits (ObjectPlace c v t) b h k = element-by c v t (out-Shape t.shape) b refl h.1 k
  element-fits (FunctionPlace s) b h k = absurd (cc)

  module _ (f : Func) (stand : TypesStand p f) where
    member-there : (c v : Bool) (i m : ℕ) (s : Structure) (o : Option Named) (a : PlaceType) → slice_get p.structures i ≡ Some s → slice_get s.members m ≡ o → member_at c v o ≡ Some a → FitsPlace p a
    member-there c v i m s None a e g k = absurd (cc)
    member-there c v i m s (Some l) a e g k =
        let h : ObjectPlace (c || is_const l.1) (v || is_volatile l.1) l.1 ≡ a = cc in
        subst (FitsPlace p) h (stand.members i m s l e g)

    member-from : (c v : Bool) (i m : ℕ) (o : Option Structure) (a : PlaceType) → slice_get p.structures i ≡ o → member_in c v m o ≡ Some a → FitsPlace p a
    member-from c v i m None a e k = absurd (cc)
    member-from c v i m (Some s) a e k = member-there c v i m s (slice_get s.members m) a e refl k

    member-by : (c v : Bool) (m : ℕ) (x : shape.Shape-F Shape CType Sig) (a : PlaceType) → member_shape p.structures c v m x ≡ Some a → FitsPlace p a
    member-by c v m (shape.Struct i) a k = member-from c v i m (slice_get p.structures i) a refl k
    member-by c v m shape.Void a k = absurd (cc)
    member-by c v m (shape.Int i) a k = absurd (cc)
    member-by c v m (shape.Pointer to) a k = absurd (cc)
    member-by c v m (shape.Array of n) a k = absurd (cc)
    member-by c v m (shape.Func s) a k = absurd (cc)

    pub member-fits : (m : ℕ) (a b : PlaceType) → member_of p.structures m a ≡ Some b → FitsPlace p b
    member-fits m (DevicePlace c t) b k = absurd (cc)
    member-fits m (ObjectPlace c v t) b k = member-by c v m (out-Shape t.shape) b k
    member-fits m (FunctionPlace s) b k = absurd (cc)

  -- ---- choices, nulls and casts

  common-objects : (c v d w : Bool) (t : CType) (b : Bool) → FitsValue p (ToObject c v t) → is_void t ≡ false → FitsValue p (if b then ToObject (c || d) (v || w) t else NoValue)
  common-objects c v d w t true h k = object-fits (c || d) (v || w) t k (h.1 k)
  common-objects c v d w t false h k = tt

  common-functions : (s : Sig) (b : Bool) → FitsValue p (if b then ToFunction s else NoValue)
  common-functions s true = tt
  common-functions s false = tt

  pub common-fits : (target : Target) (v w : ValueType) → is_pointer v ≡ true → is_to_void v ≡ false → FitsValue p v → FitsValue p (common_type target v w)
  common-fits target NoValue w h k g = absurd (cc)
  common-fits target (Integer s) w h k g = absurd (cc)
  common-fits target (ToObject c v t) NoValue h k g = tt
  common-fits target (ToObject c v t) (Integer s) h k g = tt
  common-fits target (ToObject c v t) (ToObject d w u) h k g = common-objects c v d w t (alike t u && not (is_void t)) g k
  common-fits target (ToObject c v t) (ToFunction s) h k g = tt
  common-fits target (ToFunction s) NoValue h k g = tt
  common-fits target (ToFunction s) (Integer t) h k g = tt
  common-fits target (ToFunction s) (ToObject c v t) h k g = tt
  common-fits target (ToFunction s) (ToFunction t) h k g = common-functions s (same_sig s t)

  pub qualified-fits : (t : CType) (v : ValueType) → PointerIs p t v → FitsValue p v
  qualified-fits t v q = subst (FitsValue p) (sym q.type) (pointed-fits t q.to q.pointer (scalar-stands p (kind_in p t) q.plain))

  void-const : (to : CType) → out-Shape to.shape ≡ shape.Void → to.constant ≡ false → is_const to ≡ false
  void-const to e h = const-opens to ∙ ap (λ y. to.constant || of_element (parts_const y)) e ∙ or-false to.constant ∙ h

  void-volatile : (to : CType) → out-Shape to.shape ≡ shape.Void → to.volatile ≡ false → is_volatile to ≡ false
  void-volatile to e h = volatile-opens to ∙ ap (λ y. to.volatile || of_element (parts_volatile y)) e ∙ or-false to.volatile ∙ h

  pub void-to : (to : CType) → out-Shape to.shape ≡ shape.Void → to.constant ≡ false → to.volatile ≡ false → pointer_to to ≡ ToObject false false to
  void-to to e h k =
      ap (pointer_shape to) e ∙ ap (λ (b : Bool). ToObject b (is_volatile to) to) (void-const to e h) ∙ ap (λ (b : Bool). ToObject false b to) (void-volatile to e k)

  void-fits : (to : CType) → out-Shape to.shape ≡ shape.Void → FitsValue p (ToObject false false to)
  void-fits to e = ((λ h. (refl, refl)), λ h. let g : true ≡ false = sym (ap is_void_shape e) ∙ h in absurd (cc))

  pub null-fits : (t : CType) (v : ValueType) → NullIs p t v → FitsValue p v
  null-fits t v (ToVoid to e c w o oc ov h) = subst (FitsValue p) (sym (h ∙ void-to to o oc ov)) (void-fits to o)
  null-fits t v (ToOther to e plain h) = subst (FitsValue p) (sym h) (pointed-fits t to e (scalar-stands p (kind_in p t) plain))
