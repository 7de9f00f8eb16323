-- What a type writes, and of which kind it is, at a level; and what its kind says of the types that it is derived from.
use Rattle.std.proofs.Common.{◌≡◌, ◌≤◌, ◌*◌, leb, ltb, ℕ, Bool, true, false, ◌&&◌, ◌||◌, cond, List, map, Option, Some, None, refl, ap, sym, ◌∙◌, subst, slice_get}
use Rattle.std.specs.List.{list_all}
use Rattle.std.specs.Option.{is_some}
use Rattle.cc_program.specs.CcNum.declared.target.Target.{Target}
use Rattle.cc_lex.proofs.Booleans.{and-true, le-true}
use Rattle.cc_program.specs.declared.types.CType.{CType, fold_out-CType}
use Rattle.cc_program.specs.declared.types.Shape.{Shape, fold-Shape, fold_out-Shape, out-Shape, roll-Shape, out-roll-Shape, map-Shape}
use Rattle.cc_program.specs.declared.types.Shape.TheOpen as shape
use Rattle.cc_program.specs.declared.types.Sig.{Sig, roll-Sig, fold-roll-Sig}
use Rattle.cc_program.specs.declared.types.Structure.{Structure}
use Rattle.cc_program.proofs.TypeInduction.{with_shape}
use Rattle.cc_pieces.specs.Declarators.{Declarator, Signature, parameters, shape_step, type_step, sig_step, declarator, signature}
use Rattle.cc_typed.specs.CcSyntax.Kinds.{Kind, IsVoid, IsArray, is_small, bytes_in, array_kind, extent_kind, shape_kind, type_kind, is_signature, qualified_kind, kind_of, is_sig, is_result, is_plain_scalar, extent_with}
use Rattle.cc_typed.specs.CcSyntax.Types.{has_members}
use Rattle.cc_typed.proofs.CcSyntax.KindRolls.{kind-roll, kind-opens, parts_kind}

module _ (structures : List Structure) where
  abbrev pub parts_declared : shape.Shape-F Shape CType Sig → shape.Shape-F (Bool → Bool → Declarator) Declarator Signature
  parts_declared x = map-Shape Shape CType Sig (Bool → Bool → Declarator) Declarator Signature
      (fold-Shape (Bool → Bool → Declarator) Declarator Signature (shape_step structures) (type_step structures) (sig_step structures))
      (declarator structures) (signature structures) x

  pub declared-roll : (constant volatile : Bool) (x : shape.Shape-F Shape CType Sig) →
      declarator structures (with_shape constant volatile (roll-Shape x)) ≡ shape_step structures (parts_declared x) constant volatile
  unfolding declarator signature
  declared-roll constant volatile x =
      fold_out-CType (Bool → Bool → Declarator) Declarator Signature (shape_step structures) (type_step structures) (sig_step structures) (with_shape constant volatile (roll-Shape x))
      ∙ ap (λ g. g constant volatile) (fold_out-Shape (Bool → Bool → Declarator) Declarator Signature (shape_step structures) (type_step structures) (sig_step structures) (roll-Shape x))
      ∙ ap (λ y. shape_step structures (parts_declared y) constant volatile) (out-roll-Shape x)

  pub signature-roll : (x : shape.Sig-F Shape CType Sig) →
      signature structures (roll-Sig x) ≡ record { result = declarator structures x.result; parameters = parameters (map (declarator structures) x.params) }
  unfolding declarator signature
  signature-roll x = fold-roll-Sig (Bool → Bool → Declarator) Declarator Signature (shape_step structures) (type_step structures) (sig_step structures) x

-- ---- kinds

true-some : {b : Bool} → b ≡ true → b ≡ false → ⊥
true-some h k = cc

module _ (known : List Structure) (count : ℕ) (target : Target) where
  abbrev pub IsType : CType → Type 0
  IsType t = is_some (kind_of target (extent_with known count target) t) ≡ true

  abbrev pub IsSignature : Sig → Type 0
  IsSignature s = is_sig target (extent_with known count target) s ≡ true

  pub sig-roll : (x : shape.Sig-F Shape CType Sig) → is_sig target (extent_with known count target) (roll-Sig x) ≡ (is_result (kind_of target (extent_with known count target) x.result) && list_all is_plain_scalar (map (kind_of target (extent_with known count target)) x.params))
  unfolding kind_of is_sig
  sig-roll x = fold-roll-Sig (Option Kind) (Option Kind) Bool (shape_kind target (extent_with known count target)) type_kind is_signature x

  pub pointed : (q : Bool) (k : Option Kind) → is_some (qualified_kind q (shape_kind target (extent_with known count target) (shape.Pointer k))) ≡ true → is_some k ≡ true
  pointed q None h = absurd (cc)
  pointed q (Some k) h = refl

  array-plain : (q t : Bool) (n : ℕ) → is_some (qualified_kind q (cond t (Some (IsArray n)) None)) ≡ true → (q ≡ false) × (t ≡ true)
  array-plain true true n h = absurd (cc)
  array-plain true false n h = absurd (cc)
  array-plain false true n h = (refl, refl)
  array-plain false false n h = absurd (cc)

  array-size : (q : Bool) (n : ℕ) (o : Option ℕ) → is_some (qualified_kind q (array_kind n o)) ≡ true → (q ≡ false) × (n ≤ 65535)
  array-size q n None h = absurd (cc)
  array-size q n (Some size) h =
      let e = array-plain q (leb 1 n && (leb n 65535 && is_small size)) (n * size) h in
      let f = and-true (leb 1 n) (leb n 65535 && is_small size) e.1 in
      (e.0, le-true n 65535 (and-true (leb n 65535) (is_small size) f.1).0)

  pub elements : (q : Bool) (n : ℕ) (k : Option Kind) → is_some (qualified_kind q (shape_kind target (extent_with known count target) (shape.Array k n))) ≡ true → (is_some k ≡ true) × ((q ≡ false) × (n ≤ 65535))
  elements q n None h = absurd (cc)
  elements q n (Some k) h = (refl, array-size q n (bytes_in k) h)

  func-plain : (q good : Bool) → is_some (qualified_kind q (shape_kind target (extent_with known count target) (shape.Func good))) ≡ true → (good ≡ true) × (q ≡ false)
  func-plain true true h = absurd (cc)
  func-plain true false h = absurd (cc)
  func-plain false true h = (refl, refl)
  func-plain false false h = absurd (cc)

  pub no-flags : (c v : Bool) → (c || v) ≡ false → (c ≡ false) × (v ≡ false)
  no-flags false false h = (refl, refl)
  no-flags true v h = absurd (cc)
  no-flags false true h = absurd (cc)

  result-some : (k : Option Kind) → is_result k ≡ true → is_some k ≡ true
  result-some None h = absurd (cc)
  result-some (Some k) h = refl

  pub scalar-some : (k : Option Kind) → is_plain_scalar k ≡ true → is_some k ≡ true
  scalar-some None h = absurd (cc)
  scalar-some (Some k) h = refl

  -- what stands in a type that stands in a program
  pub pointer-type : (c v : Bool) (t : CType) → IsType (with_shape c v (roll-Shape (shape.Pointer t))) → IsType t
  pointer-type c v t h = pointed (c || v) (kind_of target (extent_with known count target) t) (subst (λ k. is_some k ≡ true) (kind-roll target (extent_with known count target) c v (shape.Pointer t)) h)

  pub array-type : (c v : Bool) (t : CType) (n : ℕ) → IsType (with_shape c v (roll-Shape (shape.Array t n))) → IsType t × ((c ≡ false) × (v ≡ false)) × (n ≤ 65535)
  array-type c v t n h =
      let e = elements (c || v) n (kind_of target (extent_with known count target) t) (subst (λ k. is_some k ≡ true) (kind-roll target (extent_with known count target) c v (shape.Array t n)) h) in
      (e.0, no-flags c v e.1.0, e.1.1)

  pub func-type : (c v : Bool) (s : Sig) → IsType (with_shape c v (roll-Shape (shape.Func s))) → IsSignature s × ((c ≡ false) × (v ≡ false))
  func-type c v s h =
      let e = func-plain (c || v) (is_sig target (extent_with known count target) s) (subst (λ k. is_some k ≡ true) (kind-roll target (extent_with known count target) c v (shape.Func s)) h) in
      (e.0, no-flags c v e.1)

  pub sig-types : (x : shape.Sig-F Shape CType Sig) → IsSignature (roll-Sig x) → IsType x.result × (list_all is_plain_scalar (map (kind_of target (extent_with known count target)) x.params) ≡ true)
  sig-types x h =
      let e = and-true (is_result (kind_of target (extent_with known count target) x.result)) (list_all is_plain_scalar (map (kind_of target (extent_with known count target)) x.params)) (sym (sig-roll x) ∙ h) in
      (result-some (kind_of target (extent_with known count target) x.result) e.0, e.1)

  -- a structure with members is known, another one is among all
  struct-by : (q t u : Bool) (n i : ℕ) → is_some (qualified_kind q (extent_kind (cond t (Some (Some n)) (cond u (Some None) None)))) ≡ true → (t || u) ≡ true
  struct-by q true u n i h = refl
  struct-by q false true n i h = refl
  struct-by true false false n i h = absurd (cc)
  struct-by false false false n i h = absurd (cc)

  pub struct-type : (c v : Bool) (i : ℕ) → IsType (with_shape c v (roll-Shape (shape.Struct i))) → (has_members (slice_get known i) || ltb i count) ≡ true
  struct-type c v i h = struct-by (c || v) (has_members (slice_get known i)) (ltb i count) _ i (subst (λ k. is_some k ≡ true) (kind-roll target (extent_with known count target) c v (shape.Struct i)) h)

  -- a scalar without qualifiers of its own is not void
  scalar-void : (q : Bool) → is_plain_scalar (qualified_kind q (Some IsVoid)) ≡ true → ⊥
  scalar-void q h = cc

  pub not-void : (t : CType) → is_plain_scalar (kind_of target (extent_with known count target) t) ≡ true → out-Shape t.shape ≡ shape.Void → ⊥
  not-void t h k = scalar-void (t.constant || t.volatile)
      (subst (λ o. is_plain_scalar o ≡ true) (kind-opens target (extent_with known count target) t ∙ ap (λ x. qualified_kind (t.constant || t.volatile) (shape_kind target (extent_with known count target) (parts_kind target (extent_with known count target) x))) k) h)
