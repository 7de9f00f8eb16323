-- Types with other numbers of structures: where each structure of the program comes from the first numbers to the last ones, so does
-- each type that may stand in it.
use Rattle.std.proofs.Common.{◌≡◌, ◌∙◌, ◌⊎◌, inl, inr, ℕ, Bool, true, false, ◌&&◌, ◌||◌, cond, List, [], ◌∷◌, length, map, Option, Some, None, is_some, slice_get, refl, ap, sym, subst}
use Rattle.std.specs.Prelude.{nat_lt}
use Rattle.std.specs.List.{list_all}
use Rattle.std.proofs.lemmas.Bool.{ltb-true}
use Rattle.cc_program.specs.declared.program.Program.{Program}
use Rattle.cc_program.specs.declared.types.CType.{CType}
use Rattle.cc_program.specs.declared.types.Shape.{Shape, out-Shape, roll-Shape, out-roll-Shape}
use Rattle.cc_program.specs.declared.types.Shape.TheOpen as shape
use Rattle.cc_program.specs.declared.types.Sig.{Sig, out-Sig, roll-Sig, out-roll-Sig}
use Rattle.cc_program.specs.declared.types.Structure.{Structure}
use Rattle.cc_program.proofs.Each.{Each}
use Rattle.cc_program.proofs.Levels.{sig_of_fields}
use Rattle.cc_program.proofs.TypeInduction.{with_shape, TypeParts, SigParts, by_type, by_sig}
use Rattle.cc_shown_expressions.specs.Numbers.{type_numbered, sig_numbered}
use Rattle.cc_shown_expressions.proofs.Bases.{type-of-fields, shape-of-level}
use Rattle.cc_shown_expressions.proofs.Numbering.{level, level-at, constant-kept, volatile-kept, sig-level}
use Rattle.cc_shown_expressions.proofs.Standing.{Stands, kind-at, pointed-stands, element-stands, signature-stands, signature-parts, result-stands, scalar-stands}
use Rattle.cc_printed_programs.proofs.ShownLists.{get-inside}
use Rattle.cc_structures.proofs.WordLaws.{number_by, renumbered_level, level-renumbered, sig_level}
use Rattle.cc_structures.proofs.WordLaws as words
use Rattle.cc_type.proofs.CcSyntax.Prefixes.{both_true}
use Rattle.cc_type.specs.CcSyntax.Expressions.{null_type, pointer_type}
use Rattle.cc_type.specs.CcSyntax.Kinds.{qualified_kind, extent_kind, extent_in, is_sig, is_plain_scalar}
use Rattle.cc_type.specs.CcSyntax.Operators.{when, first_of, void_pointer_in, pointer_in, is_unqualified}
use Rattle.cc_type.specs.CcSyntax.Programs.{kind_in}
use Rattle.cc_type.specs.CcSyntax.SameTypes.{is_void_shape}
use Rattle.cc_type.specs.CcSyntax.Types.{has_members}
use Rattle.cc_type.specs.CcSyntax.Values.{ValueType, is_void, pointer_to}
use Rattle.cc_type.specs.CcSyntax.Views.{of_program}
use Rattle.cc_type.specs.CcUnit.Renumbered.{type_renumbered, sig_renumbered}

module _ (p : Program) where
  abbrev extent : ℕ → Option (Option ℕ)
  extent i = extent_in p.structures p.target i

  -- a structure that has an extent is there
  pub structure-there : (i : ℕ) → is_some (extent_in p.structures p.target i) ≡ true → (s : Structure) × (slice_get p.structures i ≡ Some s)
  structure-there i h = by (nat_lt i (length p.structures)) refl
    where
      member : (o : Option Structure) (x : Option ℕ) → slice_get p.structures i ≡ o → is_some (cond (has_members o) (Some x) None) ≡ true → (s : Structure) × (slice_get p.structures i ≡ Some s)
      member None x e k = absurd (cc)
      member (Some s) x e k = (s, e)

      by : (b : Bool) → nat_lt i (length p.structures) ≡ b → (s : Structure) × (slice_get p.structures i ≡ Some s)
      by true e = get-inside p.structures i (ltb-true i (length p.structures) e)
      by false e = first (has_members (slice_get p.structures i)) refl
        where
          first : (c : Bool) → has_members (slice_get p.structures i) ≡ c → (s : Structure) × (slice_get p.structures i ≡ Some s)
          first true f = member (slice_get p.structures i) None refl (rw f refl)
          first false f = let none : is_some (extent_in p.structures p.target i) ≡ false = rw (f, e) refl in absurd (cc)

  -- what a level of a type has that stands
  abbrev pub Known : shape.Shape-F Shape CType Sig → Type 0
  Known shape.Void = Unit {0}
  Known (shape.Int t) = Unit {0}
  Known (shape.Pointer to) = Stands p to
  Known (shape.Array of n) = Stands p of
  Known (shape.Struct i) = is_some (extent_in p.structures p.target i) ≡ true
  Known (shape.Func s) = is_sig p.target (extent_in p.structures p.target) s ≡ true

  extent-there : (q : Bool) (o : Option (Option ℕ)) → is_some (qualified_kind q (extent_kind o)) ≡ true → is_some o ≡ true
  extent-there q None h = absurd (cc)
  extent-there q (Some x) h = refl

  known-at : (t : CType) (x : shape.Shape-F Shape CType Sig) → out-Shape t.shape ≡ x → Stands p t → Known x
  known-at t shape.Void e h = tt
  known-at t (shape.Int i) e h = tt
  known-at t (shape.Pointer to) e h = pointed-stands p t to e h
  known-at t (shape.Array of n) e h = element-stands p t of n e h
  known-at t (shape.Struct i) e h = extent-there (t.constant || t.volatile) (extent i) (sym (ap is_some (kind-at p t (shape.Struct i) e)) ∙ h)
  known-at t (shape.Func s) e h = signature-stands p t s e h

  -- ---- null pointers

  one-of : (a b : Bool) (x r : ValueType) → first_of (when a x) (when b x) ≡ Some r → (a ≡ true) ⊎ (b ≡ true)
  one-of true b x r h = inl refl
  one-of false true x r h = inr refl
  one-of false false x r h = absurd (cc)

  void-stands : (t : CType) (x : shape.Shape-F Shape CType Sig) → out-Shape t.shape ≡ x → is_void_shape x ≡ true → Stands p t
  void-stands t shape.Void e h = ap is_some (kind-at p t shape.Void e)
  void-stands t (shape.Int i) e h = absurd (cc)
  void-stands t (shape.Pointer to) e h = absurd (cc)
  void-stands t (shape.Array of n) e h = absurd (cc)
  void-stands t (shape.Struct i) e h = absurd (cc)
  void-stands t (shape.Func s) e h = absurd (cc)

  null-known : (t : CType) (x : shape.Shape-F Shape CType Sig) (r : ValueType) → out-Shape t.shape ≡ x → first_of (void_pointer_in (is_unqualified t) x) (pointer_in (is_plain_scalar (kind_in p t)) x) ≡ Some r → Known x
  null-known t (shape.Pointer to) r e h = by (one-of (is_unqualified t && (is_void to && is_unqualified to)) (is_plain_scalar (kind_in p t)) (pointer_to to) r h)
    where
      by : (is_unqualified t && (is_void to && is_unqualified to) ≡ true) ⊎ (is_plain_scalar (kind_in p t) ≡ true) → Stands p to
      by (inl a) = void-stands to (out-Shape to.shape) refl (both_true (is_void to) (is_unqualified to) (both_true (is_unqualified t) (is_void to && is_unqualified to) a).1).0
      by (inr b) = pointed-stands p t to e (scalar-stands p (kind_in p t) b)
  null-known t shape.Void r e h = absurd (cc)
  null-known t (shape.Int i) r e h = absurd (cc)
  null-known t (shape.Array of n) r e h = absurd (cc)
  null-known t (shape.Struct i) r e h = absurd (cc)
  null-known t (shape.Func s) r e h = absurd (cc)

  pointer-good : (good : Bool) (x : shape.Shape-F Shape CType Sig) (r : ValueType) → pointer_in good x ≡ Some r → good ≡ true
  pointer-good true x r h = refl
  pointer-good false (shape.Pointer to) r h = absurd (cc)
  pointer-good false shape.Void r h = absurd (cc)
  pointer-good false (shape.Int i) r h = absurd (cc)
  pointer-good false (shape.Array of n) r h = absurd (cc)
  pointer-good false (shape.Struct i) r h = absurd (cc)
  pointer-good false (shape.Func s) r h = absurd (cc)

  pub pointer-stands : (t : CType) (r : ValueType) → pointer_type (of_program p) t ≡ Some r → Stands p t
  pointer-stands t r h = scalar-stands p (kind_in p t) (pointer-good (is_plain_scalar (kind_in p t)) (out-Shape t.shape) r h)

-- from the numbers `before`, by a list, to the numbers `after`
module _ (p : Program) (numbers : List ℕ) (before after : ℕ → ℕ) (back : (i : ℕ) (s : Structure) → slice_get p.structures i ≡ Some s → number_by numbers (before i) ≡ after i) where
  abbrev first : CType → CType
  first t = type_numbered before t

  abbrev then : CType → CType
  then t = type_renumbered numbers (type_numbered before t)

  abbrev last : CType → CType
  last t = type_numbered after t

  abbrev Comes : CType → Type 0
  Comes t = Stands p t → then t ≡ last t

  abbrev SigComes : Sig → Type 0
  SigComes s = is_sig p.target (extent_in p.structures p.target) s ≡ true → sig_renumbered numbers (sig_numbered before s) ≡ sig_numbered after s

  level-comes : (x : shape.Shape-F Shape CType Sig) → TypeParts Comes SigComes x → Known p x → renumbered_level numbers (level before x) ≡ level after x
  level-comes shape.Void h k = refl
  level-comes (shape.Int t) h k = refl
  level-comes (shape.Pointer to) h k = ap (λ (t : CType). shape.Pointer t) (h k)
  level-comes (shape.Array of n) h k = ap (λ (t : CType). shape.Array t n) (h k)
  level-comes (shape.Struct i) h k = let s = structure-there p i k in ap (λ (j : ℕ). shape.Struct j) (back i s.0 s.1)
  level-comes (shape.Func s) h k = ap (λ (t : Sig). shape.Func t) (h k)

  type-comes : (t : CType) (x : shape.Shape-F Shape CType Sig) → out-Shape t.shape ≡ x → TypeParts Comes SigComes x → Known p x → then t ≡ last t
  type-comes t x e h k =
      type-of-fields (then t) (last t)
      (words.constant-kept numbers (first t) ∙ (constant-kept before t ∙ sym (constant-kept after t)))
      (words.volatile-kept numbers (first t) ∙ (volatile-kept before t ∙ sym (volatile-kept after t)))
      (shape-of-level (then t).shape (last t).shape (level-renumbered numbers (first t) (level before x) (level-at before t x e) ∙ (level-comes x h k ∙ sym (level-at after t x e))))

  params-come : (ts : List CType) → Each Comes ts → list_all is_plain_scalar (map (kind_in p) ts) ≡ true → map (type_renumbered numbers) (map (type_numbered before) ts) ≡ map (type_numbered after) ts
  params-come [] h k = refl
  params-come (t ∷ ts) h k =
      let b = both_true (is_plain_scalar (kind_in p t)) (list_all is_plain_scalar (map (kind_in p) ts)) k in
      ap (λ (u : CType). u ∷ map (type_renumbered numbers) (map (type_numbered before) ts)) (h.0 (scalar-stands p (kind_in p t) b.0))
      ∙ ap (λ (us : List CType). last t ∷ us) (params-come ts h.1 b.1)

  sig-comes : (s : Sig) → SigParts Comes SigComes (out-Sig s) → SigComes s
  sig-comes s h k =
      let q = signature-parts p s k in
      let opened = sig_level numbers (sig_numbered before s) (record { result = first (out-Sig s).result; params = map (type_numbered before) (out-Sig s).params }) (sig-level before s) in
      sig_of_fields (sig_renumbered numbers (sig_numbered before s)) (sig_numbered after s)
      (ap (λ (x : shape.Sig-F Shape CType Sig). x.result) opened ∙ (h.0 (result-stands p (kind_in p (out-Sig s).result) q.0) ∙ sym (ap (λ (x : shape.Sig-F Shape CType Sig). x.result) (sig-level after s))))
      (ap (λ (x : shape.Sig-F Shape CType Sig). x.params) opened ∙ (params-come (out-Sig s).params h.1 q.1 ∙ sym (ap (λ (x : shape.Sig-F Shape CType Sig). x.params) (sig-level after s))))

  made : (constant volatile : Bool) (x : shape.Shape-F Shape CType Sig) → TypeParts Comes SigComes x → Comes (with_shape constant volatile (roll-Shape x))
  made constant volatile x h k =
      let t = with_shape constant volatile (roll-Shape x) in
      type-comes t x (out-roll-Shape x) h (known-at p t x (out-roll-Shape x) k)

  made-sig : (x : shape.Sig-F Shape CType Sig) → SigParts Comes SigComes x → SigComes (roll-Sig x)
  made-sig x h = sig-comes (roll-Sig x) (subst (λ (y : shape.Sig-F Shape CType Sig). SigParts Comes SigComes y) (sym (out-roll-Sig x)) h)

  pub comes : (t : CType) → Stands p t → type_renumbered numbers (type_numbered before t) ≡ type_numbered after t
  comes = by_type Comes SigComes made made-sig

  pub sig-back : (s : Sig) → is_sig p.target (extent_in p.structures p.target) s ≡ true → sig_renumbered numbers (sig_numbered before s) ≡ sig_numbered after s
  sig-back = by_sig Comes SigComes made made-sig

  parts-come : (x : shape.Shape-F Shape CType Sig) → TypeParts Comes SigComes x
  parts-come shape.Void = tt
  parts-come (shape.Int t) = tt
  parts-come (shape.Pointer to) = comes to
  parts-come (shape.Array of n) = comes of
  parts-come (shape.Struct i) = tt
  parts-come (shape.Func s) = sig-back s

  pub null-comes : (t : CType) (r : ValueType) → null_type (of_program p) t ≡ Some r → type_renumbered numbers (type_numbered before t) ≡ type_numbered after t
  null-comes t r h = type-comes t (out-Shape t.shape) refl (parts-come (out-Shape t.shape)) (null-known p t (out-Shape t.shape) r refl h)
