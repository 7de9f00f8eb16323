-- Types with other qualifiers at their element stand where the types stand; and a null of each type of pointers has a type that agrees.
use Rattle.std.proofs.Common.{◌≡◌, ℕ, ◌*◌, Bool, true, false, ◌&&◌, ◌||◌, length, Option, Some, None, refl, ap, sym, ◌∙◌, subst}
use Rattle.std.specs.Prelude.{nat_le, nat_lt, slice_get, if◌then◌else◌}
use Rattle.std.proofs.lemmas.Option.{same_Some}
use Rattle.cc_program.specs.Qualifiers.{of_element, is_const, is_volatile}
use Rattle.cc_program.specs.declared.types.CType.{CType, fold-CType, fold_out-CType}
use Rattle.cc_program.specs.declared.types.Shape.{Shape, Array, fold-Shape, fold_out-Shape, map-Shape, out-Shape, roll-Shape, out-roll-Shape}
use Rattle.cc_program.specs.declared.types.Shape.TheVariants.{outs-Array}
use Rattle.cc_program.specs.declared.types.Shape.TheOpen as shape
use Rattle.cc_program.specs.declared.types.Sig.{Sig, fold-Sig}
use Rattle.cc_program.proofs.QualifierLemmas.{const-opens, volatile-opens, parts_const, parts_volatile}
use Rattle.cc_program.proofs.TypeInduction.{with_shape, TypeParts, by_type}
use Rattle.cc_operands.specs.Qualified.{ShapeChange, shape_change, type_change, at_element, with_shape as changed_shape, instead, qualified_as}
use Rattle.cc_operands.specs.CcSyntax.Kinds.{Kind, IsVoid, IsScalar, IsStructure, IsArray, IsIncomplete, IsFunction, bytes_in, is_small, array_kind, pointer_kind, with_qualifiers, is_plain_scalar, extent_kind, shape_kind, qualified_kind, is_sig}
use Rattle.cc_operands.specs.CcSyntax.Values.{is_void}
use Rattle.cc_operands.specs.CcSyntax.SameTypes.{is_void_shape}
use Rattle.cc_operands.proofs.CcSyntax.KindRolls.{parts_kind, kind-opens}
use Rattle.cc_operand_types.specs.Typed.{is_pointed_kind}
use Rattle.cc_operands.proofs.CcSyntax.SameLemmas.{Alike, SameShape, Arrays}
use Rattle.cc_operands.specs.CcSyntax.Views.{View, kind_in}

or_false : (b : Bool) → (b || false) ≡ b
or_false true = refl
or_false false = refl

-- ---- a type with other qualifiers, opened

module _ (change : CType → CType) where
  abbrev pub parts : shape.Shape-F Shape CType Sig → shape.Shape-F ShapeChange (CType → CType) (Unit {0})
  parts x = map-Shape Shape CType Sig ShapeChange (CType → CType) (Unit {0}) (fold-Shape ShapeChange (CType → CType) (Unit {0}) (shape_change change) (type_change change) (λ s. tt))
      (fold-CType ShapeChange (CType → CType) (Unit {0}) (shape_change change) (type_change change) (λ s. tt)) (fold-Sig ShapeChange (CType → CType) (Unit {0}) (shape_change change) (type_change change) (λ s. tt)) x

  element-opens : (t : CType) → at_element change t ≡ type_change change (record { constant = t.constant; volatile = t.volatile; shape = shape_change change (parts (out-Shape t.shape)) }) t
  unfolding at_element
  element-opens t =
      ap (λ (f : CType → CType). f t) (fold_out-CType ShapeChange (CType → CType) (Unit {0}) (shape_change change) (type_change change) (λ s. tt) t)
      ∙ ap (λ (f : ShapeChange). type_change change (record { constant = t.constant; volatile = t.volatile; shape = f }) t)
      (fold_out-Shape ShapeChange (CType → CType) (Unit {0}) (shape_change change) (type_change change) (λ s. tt) t.shape)

  pub opens_as : (t : CType) (x : shape.Shape-F Shape CType Sig) → out-Shape t.shape ≡ x → at_element change t ≡ changed_shape change t (shape_change change (parts x) x)
  opens_as t x e = element-opens t ∙ ap (λ y. changed_shape change t (shape_change change (parts y) y)) e

abbrev is_array : shape.Shape-F Shape CType Sig → Bool
is_array (shape.Array of n) = true
is_array shape.Void = false
is_array (shape.Int t) = false
is_array (shape.Pointer t) = false
is_array (shape.Struct s) = false
is_array (shape.Func s) = false

abbrev is_array_kind : Option Kind → Bool
is_array_kind None = false
is_array_kind (Some IsVoid) = false
is_array_kind (Some (IsScalar qualified n)) = false
is_array_kind (Some (IsStructure n)) = false
is_array_kind (Some (IsArray n)) = true
is_array_kind (Some IsIncomplete) = false
is_array_kind (Some IsFunction) = false

simple_opens : (c v : Bool) (t : CType) (x : shape.Shape-F Shape CType Sig) → out-Shape t.shape ≡ x → is_array x ≡ false → qualified_as c v t ≡ instead c v t
simple_opens c v t shape.Void e h = opens_as (instead c v) t shape.Void e
simple_opens c v t (shape.Int i) e h = opens_as (instead c v) t (shape.Int i) e
simple_opens c v t (shape.Pointer to) e h = opens_as (instead c v) t (shape.Pointer to) e
simple_opens c v t (shape.Struct i) e h = opens_as (instead c v) t (shape.Struct i) e
simple_opens c v t (shape.Func s) e h = opens_as (instead c v) t (shape.Func s) e
simple_opens c v t (shape.Array of n) e h = absurd (cc)

array_opens : (c v : Bool) (t of : CType) (n : ℕ) → out-Shape t.shape ≡ shape.Array of n → qualified_as c v t ≡ record { constant = t.constant; volatile = t.volatile; shape = Array (qualified_as c v of) n }
unfolding at_element
array_opens c v t of n e = opens_as (instead c v) t (shape.Array of n) e

-- ---- kinds

requalified_by : (q q' : Bool) (s : Kind) (k : Kind) → is_array_kind (Some s) ≡ false → with_qualifiers q s ≡ Some k → is_pointed_kind true (Some k) ≡ true →
    (k' : Kind) × (with_qualifiers q' s ≡ Some k') × (bytes_in k' ≡ bytes_in k) × ((b : Bool) → is_pointed_kind b (Some k') ≡ is_pointed_kind b (Some k))
requalified_by q q' IsVoid k a h g = (IsVoid, refl, ap bytes_in (same_Some IsVoid k h), λ b. ap (λ (z : Kind). is_pointed_kind b (Some z)) (same_Some IsVoid k h))
requalified_by q q' (IsScalar f n) k a h g = (IsScalar q' n, refl, ap bytes_in (same_Some (IsScalar q n) k h), λ b. ap (λ (z : Kind). is_pointed_kind b (Some z)) (same_Some (IsScalar q n) k h))
requalified_by q q' (IsStructure n) k a h g = (IsStructure n, refl, ap bytes_in (same_Some (IsStructure n) k h), λ b. ap (λ (z : Kind). is_pointed_kind b (Some z)) (same_Some (IsStructure n) k h))
requalified_by q q' (IsArray n) k a h g = absurd (cc)
requalified_by q q' IsIncomplete k a h g = (IsIncomplete, refl, ap bytes_in (same_Some IsIncomplete k h), λ b. ap (λ (z : Kind). is_pointed_kind b (Some z)) (same_Some IsIncomplete k h))
requalified_by true q' IsFunction k a h g = absurd (cc)
requalified_by false q' IsFunction k a h g = let c : false ≡ true = ap (λ (z : Kind). is_pointed_kind true (Some z)) (same_Some IsFunction k h) ∙ g in absurd (cc)

module _ (p : View) where
  abbrev pub kind : CType → Option Kind
  kind t = kind_in p t

  abbrev pub shaped : shape.Shape-F Shape CType Sig → Option Kind
  shaped x = shape_kind p.target p.extents (parts_kind p.target p.extents x)

  abbrev pub qualified : Bool → Option Kind → Option Kind
  qualified q s = qualified_kind q s

  pub kind_at : (t : CType) (x : shape.Shape-F Shape CType Sig) → out-Shape t.shape ≡ x → kind t ≡ qualified (t.constant || t.volatile) (shaped x)
  kind_at t x e = kind-opens p.target p.extents t ∙ ap (λ y. qualified (t.constant || t.volatile) (shaped y)) e

  struct_no_array : (x : Option (Option ℕ)) → is_array_kind (extent_kind x) ≡ false
  struct_no_array None = refl
  struct_no_array (Some None) = refl
  struct_no_array (Some (Some n)) = refl

  pointer_no_array : (n : ℕ) (k : Kind) → is_array_kind (pointer_kind n k) ≡ false
  pointer_no_array n IsVoid = refl
  pointer_no_array n (IsScalar q m) = refl
  pointer_no_array n (IsStructure m) = refl
  pointer_no_array n (IsArray m) = refl
  pointer_no_array n IsIncomplete = refl
  pointer_no_array n IsFunction = refl

  pointed_no_array : (to : Option Kind) → is_array_kind (shape_kind p.target p.extents (shape.Pointer to)) ≡ false
  pointed_no_array None = refl
  pointed_no_array (Some k) = pointer_no_array p.target.pointer_bytes k

  func_no_array : (good : Bool) → is_array_kind (shape_kind p.target p.extents (shape.Func good)) ≡ false
  func_no_array true = refl
  func_no_array false = refl

  simple_kind : (x : shape.Shape-F Shape CType Sig) → is_array x ≡ false → is_array_kind (shaped x) ≡ false
  simple_kind shape.Void h = refl
  simple_kind (shape.Int t) h = refl
  simple_kind (shape.Pointer to) h = pointed_no_array (kind to)
  simple_kind (shape.Struct i) h = struct_no_array (p.extents i)
  simple_kind (shape.Func s) h = func_no_array (is_sig p.target p.extents s)
  simple_kind (shape.Array of n) h = absurd (cc)

  pub any_pointed : (b : Bool) (k : Option Kind) → is_pointed_kind false k ≡ true → is_pointed_kind b k ≡ true
  any_pointed b None h = absurd (cc)
  any_pointed b (Some IsVoid) h = absurd (cc)
  any_pointed b (Some (IsScalar q n)) h = refl
  any_pointed b (Some (IsStructure n)) h = refl
  any_pointed b (Some (IsArray n)) h = refl
  any_pointed b (Some IsIncomplete) h = refl
  any_pointed b (Some IsFunction) h = absurd (cc)

  -- ---- what holds of a type with other qualifiers
  pub record Requalified (c v : Bool) (t : CType) (k : Kind) (u : CType) : Type 0 where
    pub alike : Alike t u
    pub const : is_const u ≡ c
    pub volat : is_volatile u ≡ v
    pub own : Kind
    pub is : kind u ≡ Some own
    pub bytes : bytes_in own ≡ bytes_in k
    pub pointed : (b : Bool) → is_pointed_kind b (Some own) ≡ is_pointed_kind b (Some k)

  no_element : (x : shape.Shape-F Shape CType Sig) → is_array x ≡ false → (of_element (parts_const x) ≡ false) × (of_element (parts_volatile x) ≡ false)
  no_element shape.Void h = (refl, refl)
  no_element (shape.Int t) h = (refl, refl)
  no_element (shape.Pointer to) h = (refl, refl)
  no_element (shape.Struct i) h = (refl, refl)
  no_element (shape.Func s) h = (refl, refl)
  no_element (shape.Array of n) h = absurd (cc)

  simple_const : (u : CType) (x : shape.Shape-F Shape CType Sig) → out-Shape u.shape ≡ x → is_array x ≡ false → (is_const u ≡ u.constant) × (is_volatile u ≡ u.volatile)
  simple_const u x e h = (
    const-opens u ∙ ap (λ y. u.constant || of_element (parts_const y)) e ∙ ap (λ b. u.constant || b) (no_element x h).0 ∙ or_false u.constant,
    volatile-opens u ∙ ap (λ y. u.volatile || of_element (parts_volatile y)) e ∙ ap (λ b. u.volatile || b) (no_element x h).1 ∙ or_false u.volatile,
  )

  simple_by : (c v : Bool) (t : CType) (k : Kind) (x : shape.Shape-F Shape CType Sig) (s : Option Kind) → out-Shape t.shape ≡ x → is_array x ≡ false → shaped x ≡ s → qualified (t.constant || t.volatile) s ≡ Some k → is_pointed_kind true (Some k) ≡ true →
      Requalified c v t k (instead c v t)
  simple_by c v t k x None e a f h g = absurd (cc)
  simple_by c v t k x (Some s) e a f h g =
      let r = requalified_by (t.constant || t.volatile) (c || v) s k (sym (ap is_array_kind f) ∙ simple_kind x a) h g in
      let q = simple_const (instead c v t) x e a in
      record { alike = SameShape t (instead c v t) refl; const = q.0; volat = q.1; own = r.0; is = kind_at (instead c v t) x e ∙ ap (qualified (c || v)) f ∙ r.1; bytes = r.2; pointed = r.3 }

  simple : (c v : Bool) (t : CType) (k : Kind) (x : shape.Shape-F Shape CType Sig) → out-Shape t.shape ≡ x → is_array x ≡ false → kind t ≡ Some k → is_pointed_kind true (Some k) ≡ true → Requalified c v t k (qualified_as c v t)
  simple c v t k x e a h g =
      subst (λ (u : CType). Requalified c v t k u) (sym (simple_opens c v t x e a)) (simple_by c v t k x (shaped x) e a refl (sym (kind_at t x e) ∙ h) g)

  -- ---- arrays

  abbrev pub arrayed : ℕ → Option Kind → Option Kind
  arrayed n of = shape_kind p.target p.extents (shape.Array of n)

  unqualified_by : (q : Bool) (b : Bool) (m : ℕ) (k : Kind) → qualified q (if b then Some (IsArray m) else None) ≡ Some k → q ≡ false
  unqualified_by false b m k h = refl
  unqualified_by true true m k h = absurd (cc)
  unqualified_by true false m k h = absurd (cc)

  -- what an array's element is
  pub record IsElement (q : Bool) (n : ℕ) (k e : Kind) : Type 0 where
    pub plain : q ≡ false
    pub pointed : is_pointed_kind false (Some e) ≡ true

  qualified_none : (q : Bool) (k : Kind) → qualified q None ≡ Some k → ⊥
  qualified_none q k h = absurd (cc)

  pub element_kind : (q : Bool) (n : ℕ) (k e : Kind) → qualified q (arrayed n (Some e)) ≡ Some k → IsElement q n k e
  element_kind q n k IsVoid h = absurd (cc)
  element_kind q n k (IsScalar f m) h = record { plain = unqualified_by q (nat_le 1 n && (nat_le n 65535 && is_small m)) (n * m) k h; pointed = refl }
  element_kind q n k (IsStructure m) h = record { plain = unqualified_by q (nat_le 1 n && (nat_le n 65535 && is_small m)) (n * m) k h; pointed = refl }
  element_kind q n k (IsArray m) h = record { plain = unqualified_by q (nat_le 1 n && (nat_le n 65535 && is_small m)) (n * m) k h; pointed = refl }
  element_kind q n k IsIncomplete h = absurd (cc)
  element_kind q n k IsFunction h = absurd (cc)

  both_false : (a b : Bool) → (a || b) ≡ false → (a ≡ false) × (b ≡ false)
  both_false false b h = (refl, h)
  both_false true b h = absurd (cc)

  abbrev Requalifies : CType → Type 0
  Requalifies t = (c v : Bool) (k : Kind) → kind t ≡ Some k → is_pointed_kind true (Some k) ≡ true → Requalified c v t k (qualified_as c v t)

  array_some : (c v : Bool) (t of : CType) (n : ℕ) (k e : Kind) → out-Shape t.shape ≡ shape.Array of n → kind of ≡ Some e → qualified (t.constant || t.volatile) (arrayed n (Some e)) ≡ Some k → is_pointed_kind true (Some k) ≡ true →
      Requalified c v of e (qualified_as c v of) → Requalified c v t k (record { constant = t.constant; volatile = t.volatile; shape = Array (qualified_as c v of) n })
  array_some c v t of n k e f g h i r =
      let u : CType = record { constant = t.constant; volatile = t.volatile; shape = Array (qualified_as c v of) n } in
      let o : out-Shape u.shape ≡ shape.Array (qualified_as c v of) n = outs-Array (qualified_as c v of) n in
      let b = both_false t.constant t.volatile (element_kind (t.constant || t.volatile) n k e h).plain in
      record {
        alike = Arrays t u of (qualified_as c v of) n f o r.alike;
        const = const-opens u ∙ ap (λ y. t.constant || of_element (parts_const y)) o ∙ ap (λ a. a || is_const (qualified_as c v of)) b.0 ∙ r.const;
        volat = volatile-opens u ∙ ap (λ y. t.volatile || of_element (parts_volatile y)) o ∙ ap (λ a. a || is_volatile (qualified_as c v of)) b.1 ∙ r.volat;
        own = k;
        is = kind_at u (shape.Array (qualified_as c v of) n) o ∙ ap (λ (z : Option Kind). qualified (t.constant || t.volatile) (arrayed n z)) r.is ∙ ap (λ (z : Option ℕ). qualified (t.constant || t.volatile) (array_kind n z)) r.bytes ∙ h;
        bytes = refl;
        pointed = λ d. refl;
      }

  array_by : (c v : Bool) (t of : CType) (n : ℕ) (k : Kind) (e : Option Kind) → out-Shape t.shape ≡ shape.Array of n → kind of ≡ e → qualified (t.constant || t.volatile) (arrayed n e) ≡ Some k → is_pointed_kind true (Some k) ≡ true →
      Requalifies of → Requalified c v t k (record { constant = t.constant; volatile = t.volatile; shape = Array (qualified_as c v of) n })
  array_by c v t of n k None f g h i r = absurd (cc)
  array_by c v t of n k (Some e) f g h i r = array_some c v t of n k e f g h i (r c v e g (any_pointed true (Some e) (element_kind (t.constant || t.volatile) n k e h).pointed))

  arrays : (t of : CType) (n : ℕ) → out-Shape t.shape ≡ shape.Array of n → Requalifies of → Requalifies t
  arrays t of n f r c v k h i =
      subst (λ (u : CType). Requalified c v t k u) (sym (array_opens c v t of n f)) (array_by c v t of n k (kind of) f refl (sym (kind_at t (shape.Array of n) f) ∙ h) i r)

  level : (t : CType) (x : shape.Shape-F Shape CType Sig) → out-Shape t.shape ≡ x → TypeParts Requalifies (λ s. Unit {0}) x → Requalifies t
  level t shape.Void e h = λ c v k. simple c v t k shape.Void e refl
  level t (shape.Int i) e h = λ c v k. simple c v t k (shape.Int i) e refl
  level t (shape.Pointer to) e h = λ c v k. simple c v t k (shape.Pointer to) e refl
  level t (shape.Array of n) e h = arrays t of n e h
  level t (shape.Struct i) e h = λ c v k. simple c v t k (shape.Struct i) e refl
  level t (shape.Func s) e h = λ c v k. simple c v t k (shape.Func s) e refl

  pub requalifies : (t : CType) → Requalifies t
  requalifies = by_type Requalifies (λ s. Unit {0}) (λ c v x h. level (with_shape c v (roll-Shape x)) x (out-roll-Shape x) h) (λ x h. tt)

  -- ---- what may be pointed to

  pub there : (b : Bool) (k : Option Kind) → is_pointed_kind b k ≡ true → (e : Kind) × (k ≡ Some e)
  there b None h = absurd (cc)
  there b (Some k) h = (k, refl)

  pub widened : (b : Bool) (k : Kind) → is_pointed_kind b (Some k) ≡ true → is_pointed_kind true (Some k) ≡ true
  widened b IsVoid h = refl
  widened b (IsScalar q n) h = refl
  widened b (IsStructure n) h = refl
  widened b (IsArray n) h = refl
  widened b IsIncomplete h = refl
  widened b IsFunction h = absurd (cc)

  -- ---- what is void

  void_by : (q : Bool) (k : Kind) (s : Option Kind) → qualified q s ≡ Some IsVoid → s ≡ Some IsVoid
  void_by q k None h = absurd (cc)
  void_by q k (Some IsVoid) h = refl
  void_by q k (Some (IsScalar f n)) h = absurd (cc)
  void_by q k (Some (IsStructure n)) h = absurd (cc)
  void_by true k (Some (IsArray n)) h = absurd (cc)
  void_by false k (Some (IsArray n)) h = absurd (cc)
  void_by q k (Some IsIncomplete) h = absurd (cc)
  void_by true k (Some IsFunction) h = absurd (cc)
  void_by false k (Some IsFunction) h = absurd (cc)

  struct_no_void : (x : Option (Option ℕ)) → extent_kind x ≡ Some IsVoid → ⊥
  struct_no_void None h = absurd (cc)
  struct_no_void (Some None) h = absurd (cc)
  struct_no_void (Some (Some n)) h = absurd (cc)

  pointer_no_void : (n : ℕ) (k : Kind) → pointer_kind n k ≡ Some IsVoid → ⊥
  pointer_no_void n IsVoid h = absurd (cc)
  pointer_no_void n (IsScalar q m) h = absurd (cc)
  pointer_no_void n (IsStructure m) h = absurd (cc)
  pointer_no_void n (IsArray m) h = absurd (cc)
  pointer_no_void n IsIncomplete h = absurd (cc)
  pointer_no_void n IsFunction h = absurd (cc)

  pointed_no_void : (to : Option Kind) → shape_kind p.target p.extents (shape.Pointer to) ≡ Some IsVoid → ⊥
  pointed_no_void None h = absurd (cc)
  pointed_no_void (Some k) h = pointer_no_void p.target.pointer_bytes k h

  func_no_void : (good : Bool) → shape_kind p.target p.extents (shape.Func good) ≡ Some IsVoid → ⊥
  func_no_void true h = absurd (cc)
  func_no_void false h = absurd (cc)

  array_of_no_void : (b : Bool) (m : ℕ) → (if b then Some (IsArray m) else None) ≡ Some IsVoid → ⊥
  array_of_no_void true m h = absurd (cc)
  array_of_no_void false m h = absurd (cc)

  array_size_no_void : (n : ℕ) (size : Option ℕ) → array_kind n size ≡ Some IsVoid → ⊥
  array_size_no_void n None h = absurd (cc)
  array_size_no_void n (Some m) h = array_of_no_void (nat_le 1 n && (nat_le n 65535 && is_small m)) (n * m) h

  array_no_void : (n : ℕ) (of : Option Kind) → arrayed n of ≡ Some IsVoid → ⊥
  array_no_void n None h = absurd (cc)
  array_no_void n (Some k) h = array_size_no_void n (bytes_in k) h

  void_shape : (x : shape.Shape-F Shape CType Sig) → shaped x ≡ Some IsVoid → x ≡ shape.Void
  void_shape shape.Void h = refl
  void_shape (shape.Int t) h = absurd (cc)
  void_shape (shape.Pointer to) h = absurd (pointed_no_void (kind to) h)
  void_shape (shape.Array of n) h = absurd (array_no_void n (kind of) h)
  void_shape (shape.Struct i) h = absurd (struct_no_void (p.extents i) h)
  void_shape (shape.Func s) h = absurd (func_no_void (is_sig p.target p.extents s) h)

  pub void_kind : (t : CType) → kind t ≡ Some IsVoid → is_void t ≡ true
  void_kind t h = ap is_void_shape (void_shape (out-Shape t.shape) (void_by (t.constant || t.volatile) IsVoid (shaped (out-Shape t.shape)) (sym (kind_at t (out-Shape t.shape) refl) ∙ h)))

  not_void_by : (b : Bool) (k : Option Kind) (w : Bool) → (k ≡ Some IsVoid → w ≡ true) → w ≡ false → is_pointed_kind b k ≡ true → is_pointed_kind false k ≡ true
  not_void_by b None w f e h = absurd (cc)
  not_void_by b (Some IsVoid) w f e h = let c : true ≡ false = sym (f refl) ∙ e in absurd (cc)
  not_void_by b (Some (IsScalar q n)) w f e h = refl
  not_void_by b (Some (IsStructure n)) w f e h = refl
  not_void_by b (Some (IsArray n)) w f e h = refl
  not_void_by b (Some IsIncomplete) w f e h = refl
  not_void_by b (Some IsFunction) w f e h = absurd (cc)

  -- what is not void may be pointed to without qualifiers and with them
  pub not_void : (b : Bool) (t : CType) → is_void t ≡ false → is_pointed_kind b (kind t) ≡ true → is_pointed_kind false (kind t) ≡ true
  not_void b t e h = not_void_by b (kind t) (is_void t) (void_kind t) e h

  -- ---- pointers to what may be pointed to

  pointer_by : (k : Kind) → is_pointed_kind false (Some k) ≡ true → is_plain_scalar (qualified false (shape_kind p.target p.extents (shape.Pointer (Some k)))) ≡ true
  pointer_by IsVoid h = absurd (cc)
  pointer_by (IsScalar q n) h = refl
  pointer_by (IsStructure n) h = refl
  pointer_by (IsArray n) h = refl
  pointer_by IsIncomplete h = refl
  pointer_by IsFunction h = absurd (cc)

  pub pointer_plain : (k : Option Kind) → is_pointed_kind false k ≡ true → is_plain_scalar (qualified false (shape_kind p.target p.extents (shape.Pointer k))) ≡ true
  pointer_plain None h = absurd (cc)
  pointer_plain (Some k) h = pointer_by k h

  pub function_plain : (k : Option Kind) (s : Sig) → k ≡ qualified false (shaped (shape.Func s)) → is_sig p.target p.extents s ≡ true → is_plain_scalar (qualified false (shape_kind p.target p.extents (shape.Pointer k))) ≡ true
  function_plain k s e h =
      ap (λ (z : Option Kind). is_plain_scalar (qualified false (shape_kind p.target p.extents (shape.Pointer z))))
      (e ∙ ap (λ (b : Bool). qualified false (shape_kind p.target p.extents (shape.Func b))) h)
