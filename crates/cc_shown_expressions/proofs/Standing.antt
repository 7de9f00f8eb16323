-- What the kind of a type says of the types that it is derived from, where it may stand in a program (C99 6.7.5).
use Rattle.std.proofs.Common.{◌≡◌, ◌*◌, ℕ, Bool, true, false, ◌&&◌, ◌||◌, cond, map, length, Option, Some, None, refl, ap, sym, ◌∙◌, subst, slice_get}
use Rattle.std.specs.Prelude.{nat_le, nat_lt}
use Rattle.std.specs.List.{list_all}
use Rattle.std.specs.Option.{is_some}
use Rattle.cc_program.specs.CcNum.Integers.{bytes_of}
use Rattle.cc_program.specs.CcNum.declared.int_type.IntType.{IntType}
use Rattle.cc_program.specs.declared.program.Program.{Program}
use Rattle.cc_program.specs.declared.types.CType.{CType}
use Rattle.cc_program.specs.declared.types.Shape.{Shape, out-Shape, roll-Shape, roll-out-Shape}
use Rattle.cc_program.specs.declared.types.Shape.TheOpen as shape
use Rattle.cc_program.specs.declared.types.Sig.{Sig, out-Sig, roll-out-Sig}
use Rattle.cc_program.proofs.TypeInduction.{with_shape}
use Rattle.cc_terms.specs.CcSpecifiers.Bounds.{is_bound}
use Rattle.cc_terms.specs.CcSpecifiers.Declarators.{result_breach}
use Rattle.cc_terms.specs.CcSyntax.Kinds.{Kind, IsVoid, IsScalar, IsStructure, IsArray, IsIncomplete, IsFunction, bytes_in, is_small, pointer_kind, array_kind, is_result, is_plain_scalar, extent_kind, shape_kind, qualified_kind, is_sig, extent_in}
use Rattle.cc_terms.specs.CcSyntax.Programs.{kind_in}
use Rattle.cc_terms.specs.CcSyntax.SameTypes.{is_void_shape}
use Rattle.cc_terms.specs.CcSyntax.Types.{has_members}
use Rattle.cc_terms.specs.CcSyntax.Values.{is_void}
use Rattle.cc_terms.proofs.CcSyntax.KindRolls.{parts_kind, kind-opens}
use Rattle.cc_terms.proofs.CcSyntax.Prefixes.{both_true}
use Rattle.cc_expression_trees.proofs.Levels.{pointer-type, func-type, sig-roll, no-flags}
use Rattle.cc_shown_expressions.proofs.Numbering.{level}

pub rolled : (t : CType) (x : shape.Shape-F Shape CType Sig) → out-Shape t.shape ≡ x → t ≡ with_shape t.constant t.volatile (roll-Shape x)
rolled t x e = ap (λ (s : Shape). with_shape t.constant t.volatile s) (sym (roll-out-Shape t.shape) ∙ ap roll-Shape e)

module _ (p : Program) where
  abbrev pub Stands : CType → Type 0
  Stands t = is_some (kind_in p t) ≡ true

  abbrev shaped : shape.Shape-F Shape CType Sig → Option Kind
  shaped x = shape_kind p.target (extent_in p.structures p.target) (parts_kind p.target (extent_in p.structures p.target) x)

  abbrev qualified : Bool → Option Kind → Option Kind
  qualified q k = qualified_kind q k

  pub kind-at : (t : CType) (x : shape.Shape-F Shape CType Sig) → out-Shape t.shape ≡ x → kind_in p t ≡ qualified (t.constant || t.volatile) (shaped x)
  kind-at t x e = kind-opens p.target (extent_in p.structures p.target) t ∙ ap (λ y. qualified (t.constant || t.volatile) (shaped y)) e

  -- ---- pointers

  pub pointed-stands : (c b : CType) → out-Shape c.shape ≡ shape.Pointer b → Stands c → Stands b
  pointed-stands c b e h = pointer-type p.structures (length p.structures) p.target c.constant c.volatile b (subst Stands (rolled c (shape.Pointer b) e) h)

  no-void : (q r : Bool) → is_some (qualified q (shape_kind p.target (extent_in p.structures p.target) (shape.Pointer (qualified r (Some IsVoid))))) ≡ true → ⊥
  no-void q r h = cc

  void-by : (c b : CType) (x : shape.Shape-F Shape CType Sig) → out-Shape c.shape ≡ shape.Pointer b → out-Shape b.shape ≡ x → Stands c → is_void_shape x ≡ false
  void-by c b shape.Void e f h =
      absurd (no-void (c.constant || c.volatile) (b.constant || b.volatile) (subst (λ o. is_some o ≡ true) (kind-at c (shape.Pointer b) e ∙ ap (λ (k : Option Kind). qualified (c.constant || c.volatile) (shape_kind p.target (extent_in p.structures p.target) (shape.Pointer k))) (kind-at b shape.Void f)) h))
  void-by c b (shape.Int t) e f h = refl
  void-by c b (shape.Pointer to) e f h = refl
  void-by c b (shape.Array of n) e f h = refl
  void-by c b (shape.Struct i) e f h = refl
  void-by c b (shape.Func sig) e f h = refl

  pub pointed-not-void : (c b : CType) → out-Shape c.shape ≡ shape.Pointer b → Stands c → is_void b ≡ false
  pointed-not-void c b e h = void-by c b (out-Shape b.shape) e refl h

  -- ---- arrays

  pub record IsElement (b : CType) (n : ℕ) : Type 0 where
    pub kind : Kind
    pub is : kind_in p b ≡ Some kind
    pub size : ℕ
    pub bytes : bytes_in kind ≡ Some size
    pub small : is_small size ≡ true
    pub bound : is_bound n ≡ true

  array-tested : (q t : Bool) (n : ℕ) → is_some (qualified q (cond t (Some (IsArray n)) None)) ≡ true → t ≡ true
  array-tested true true n h = refl
  array-tested true false n h = absurd (cc)
  array-tested false true n h = refl
  array-tested false false n h = absurd (cc)

  element-bytes : (q : Bool) (b : CType) (n : ℕ) (k : Kind) (o : Option ℕ) → kind_in p b ≡ Some k → bytes_in k ≡ o → is_some (qualified q (array_kind n o)) ≡ true → IsElement b n
  element-bytes q b n k None e f h = absurd (cc)
  element-bytes q b n k (Some size) e f h =
      let t = array-tested q (nat_le 1 n && (nat_le n 65535 && is_small size)) (n * size) h in
      let u = both_true (nat_le 1 n) (nat_le n 65535 && is_small size) t in
      let v = both_true (nat_le n 65535) (is_small size) u.1 in
      let w : is_bound n ≡ true = rw (u.0, v.0) refl in
      record { kind = k; is = e; size = size; bytes = f; small = v.1; bound = w }

  element-kind : (q : Bool) (b : CType) (n : ℕ) (o : Option Kind) → kind_in p b ≡ o → is_some (qualified q (shape_kind p.target (extent_in p.structures p.target) (shape.Array o n))) ≡ true → IsElement b n
  element-kind q b n None e h = absurd (cc)
  element-kind q b n (Some k) e h = element-bytes q b n k (bytes_in k) e refl h

  pub element-is : (c b : CType) (n : ℕ) → out-Shape c.shape ≡ shape.Array b n → Stands c → IsElement b n
  element-is c b n e h = element-kind (c.constant || c.volatile) b n (kind_in p b) refl (subst (λ o. is_some o ≡ true) (kind-at c (shape.Array b n) e) h)

  pub element-stands : (c b : CType) (n : ℕ) → out-Shape c.shape ≡ shape.Array b n → Stands c → Stands b
  element-stands c b n e h = ap is_some (element-is c b n e h).is

  -- ---- functions

  pub signature-stands : (c : CType) (sig : Sig) → out-Shape c.shape ≡ shape.Func sig → Stands c → is_sig p.target (extent_in p.structures p.target) sig ≡ true
  signature-stands c sig e h = (func-type p.structures (length p.structures) p.target c.constant c.volatile sig (subst Stands (rolled c (shape.Func sig) e) h)).0

  pub signature-parts : (sig : Sig) → is_sig p.target (extent_in p.structures p.target) sig ≡ true → (is_result (kind_in p (out-Sig sig).result) ≡ true) × (list_all is_plain_scalar (map (kind_in p) (out-Sig sig).params) ≡ true)
  signature-parts sig h =
      both_true (is_result (kind_in p (out-Sig sig).result)) (list_all is_plain_scalar (map (kind_in p) (out-Sig sig).params))
      (sym (sig-roll p.structures (length p.structures) p.target (out-Sig sig)) ∙ ap (is_sig p.target (extent_in p.structures p.target)) (roll-out-Sig sig) ∙ h)

  pub result-stands : (k : Option Kind) → is_result k ≡ true → is_some k ≡ true
  result-stands None h = absurd (cc)
  result-stands (Some k) h = refl

  no-array : (q t : Bool) (n : ℕ) → is_result (qualified q (cond t (Some (IsArray n)) None)) ≡ true → ⊥
  no-array true true n h = cc
  no-array true false n h = cc
  no-array false true n h = cc
  no-array false false n h = cc

  no-array-bytes : (q : Bool) (n : ℕ) (o : Option ℕ) → is_result (qualified q (array_kind n o)) ≡ true → ⊥
  no-array-bytes q n None h = cc
  no-array-bytes q n (Some size) h = no-array q (nat_le 1 n && (nat_le n 65535 && is_small size)) (n * size) h

  no-array-kind : (q : Bool) (n : ℕ) (o : Option Kind) → is_result (qualified q (shape_kind p.target (extent_in p.structures p.target) (shape.Array o n))) ≡ true → ⊥
  no-array-kind q n None h = cc
  no-array-kind q n (Some k) h = no-array-bytes q n (bytes_in k) h

  no-struct : (q t u : Bool) (n : ℕ) → is_result (qualified q (extent_kind (cond t (Some (Some n)) (cond u (Some None) None)))) ≡ true → ⊥
  no-struct q true u n h = cc
  no-struct q false true n h = cc
  no-struct q false false n h = cc

  no-func : (q t : Bool) → is_result (qualified q (cond t (Some IsFunction) None)) ≡ true → ⊥
  no-func true true h = cc
  no-func true false h = cc
  no-func false true h = cc
  no-func false false h = cc

  result-level : (number : ℕ → ℕ) (q : Bool) (x : shape.Shape-F Shape CType Sig) → is_result (qualified q (shaped x)) ≡ true → result_breach (level number x) ≡ None
  result-level number q shape.Void h = refl
  result-level number q (shape.Int t) h = refl
  result-level number q (shape.Pointer to) h = refl
  result-level number q (shape.Array of n) h = absurd (no-array-kind q n (kind_in p of) h)
  result-level number q (shape.Struct i) h = absurd (no-struct q (has_members (slice_get p.structures i)) (nat_lt i (length p.structures)) _ h)
  result-level number q (shape.Func sig) h = absurd (no-func q (is_sig p.target (extent_in p.structures p.target) sig) h)

  pub result-breaks : (number : ℕ → ℕ) (t : CType) → is_result (kind_in p t) ≡ true → result_breach (level number (out-Shape t.shape)) ≡ None
  result-breaks number t h = result-level number (t.constant || t.volatile) (out-Shape t.shape) (sym (ap is_result (kind-at t (out-Shape t.shape) refl)) ∙ h)

  -- ---- parameters: scalars without qualifiers of their own

  pub data ScalarShape : shape.Shape-F Shape CType Sig → Type 0 where
    IsInteger : (x : shape.Shape-F Shape CType Sig) (i : IntType) → x ≡ shape.Int i → ScalarShape x
    IsPointer : (x : shape.Shape-F Shape CType Sig) (to : CType) → x ≡ shape.Pointer to → ScalarShape x

  plain-result : (k : Option Kind) → is_plain_scalar k ≡ true → is_result k ≡ true
  plain-result None h = absurd (cc)
  plain-result (Some IsVoid) h = absurd (cc)
  plain-result (Some (IsScalar q n)) h = refl
  plain-result (Some (IsStructure n)) h = absurd (cc)
  plain-result (Some (IsArray n)) h = absurd (cc)
  plain-result (Some IsIncomplete) h = absurd (cc)
  plain-result (Some IsFunction) h = absurd (cc)

  plain-void : (q : Bool) → is_plain_scalar (qualified q (Some IsVoid)) ≡ true → ⊥
  plain-void q h = cc

  scalar-level : (q : Bool) (x : shape.Shape-F Shape CType Sig) → is_plain_scalar (qualified q (shaped x)) ≡ true → ScalarShape x
  scalar-level q shape.Void h = absurd (plain-void q h)
  scalar-level q (shape.Int t) h = IsInteger (shape.Int t) t refl
  scalar-level q (shape.Pointer to) h = IsPointer (shape.Pointer to) to refl
  scalar-level q (shape.Array of n) h = absurd (no-array-kind q n (kind_in p of) (plain-result _ h))
  scalar-level q (shape.Struct i) h = absurd (no-struct q (has_members (slice_get p.structures i)) (nat_lt i (length p.structures)) _ (plain-result _ h))
  scalar-level q (shape.Func sig) h = absurd (no-func q (is_sig p.target (extent_in p.structures p.target) sig) (plain-result _ h))

  pub scalar-shape : (t : CType) → is_plain_scalar (kind_in p t) ≡ true → ScalarShape (out-Shape t.shape)
  scalar-shape t h = scalar-level (t.constant || t.volatile) (out-Shape t.shape) (sym (ap is_plain_scalar (kind-at t (out-Shape t.shape) refl)) ∙ h)

  plain-pointer : (q : Bool) (n : ℕ) (k : Kind) → is_plain_scalar (qualified q (pointer_kind n k)) ≡ true → q ≡ false
  plain-pointer q n IsVoid h = absurd (cc)
  plain-pointer true n (IsScalar r m) h = absurd (cc)
  plain-pointer false n (IsScalar r m) h = refl
  plain-pointer true n (IsStructure m) h = absurd (cc)
  plain-pointer false n (IsStructure m) h = refl
  plain-pointer true n (IsArray m) h = absurd (cc)
  plain-pointer false n (IsArray m) h = refl
  plain-pointer true n IsIncomplete h = absurd (cc)
  plain-pointer false n IsIncomplete h = refl
  plain-pointer true n IsFunction h = absurd (cc)
  plain-pointer false n IsFunction h = refl

  plain-to : (q : Bool) (o : Option Kind) → is_plain_scalar (qualified q (shape_kind p.target (extent_in p.structures p.target) (shape.Pointer o))) ≡ true → q ≡ false
  plain-to q None h = absurd (cc)
  plain-to q (Some k) h = plain-pointer q p.target.pointer_bytes k h

  plain-int : (q : Bool) (n : ℕ) → is_plain_scalar (qualified q (Some (IsScalar false n))) ≡ true → q ≡ false
  plain-int true n h = absurd (cc)
  plain-int false n h = refl

  plain-by : (t : CType) (x : shape.Shape-F Shape CType Sig) → out-Shape t.shape ≡ x → ScalarShape x → is_plain_scalar (kind_in p t) ≡ true → (t.constant || t.volatile) ≡ false
  plain-by t _ e (IsInteger x i f) h = plain-int (t.constant || t.volatile) (bytes_of i p.target) (sym (ap is_plain_scalar (kind-at t (shape.Int i) (e ∙ f))) ∙ h)
  plain-by t _ e (IsPointer x to f) h = plain-to (t.constant || t.volatile) (kind_in p to) (sym (ap is_plain_scalar (kind-at t (shape.Pointer to) (e ∙ f))) ∙ h)

  pub scalar-plain : (t : CType) → is_plain_scalar (kind_in p t) ≡ true → (t.constant ≡ false) × (t.volatile ≡ false)
  scalar-plain t h = no-flags p.structures (length p.structures) p.target t.constant t.volatile (plain-by t (out-Shape t.shape) refl (scalar-shape t h) h)

  pub scalar-stands : (k : Option Kind) → is_plain_scalar k ≡ true → is_some k ≡ true
  scalar-stands k h = result-stands k (plain-result k h)
