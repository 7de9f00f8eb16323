-- A type has its kind by other numbers of structures, where what has these numbers is as large.
use Rattle.std.proofs.Common.{◌≡◌, ℕ, Bool, true, false, ◌&&◌, ◌||◌, List, [], ◌∷◌, map, Option, Some, None, refl, ap, sym, ◌∙◌}
use Rattle.std.specs.List.{list_all}
use Rattle.cc_program.specs.CcNum.declared.target.Target.{Target}
use Rattle.cc_operands.proofs.CcSyntax.KindRolls.{parts_kind, kind-opens}
use Rattle.cc_program.proofs.Each.{Each}
use Rattle.cc_program.proofs.TypeInduction.{with_shape, TypeParts, SigParts, by_type, by_sig}
use Rattle.cc_program.specs.declared.types.CType.{CType}
use Rattle.cc_program.specs.declared.types.Shape.{Shape, out-Shape, roll-Shape, out-roll-Shape}
use Rattle.cc_program.specs.declared.types.Shape.TheOpen as shape
use Rattle.cc_program.specs.declared.types.Sig.{Sig, roll-Sig, out-Sig, out-roll-Sig, fold_out-Sig}
use Rattle.cc_structures.proofs.WordLaws.{number_by, renumbered_level, level-renumbered, constant-kept, volatile-kept, renumbered_sig_level, sig_level}
use Rattle.cc_operands.specs.CcSyntax.Kinds.{Kind, is_result, is_plain_scalar, extent_kind, qualified_kind, type_kind, is_signature, shape_kind, kind_of, is_sig}
use Rattle.cc_operands.proofs.CcSyntax.Prefixes.{both_true}
use Rattle.cc_unit.specs.Renumbered.{type_renumbered, sig_renumbered}

module _ (target : Target) (numbers : List ℕ) (before after : ℕ → Option (Option ℕ)) (kept : (i : ℕ) (x : Option ℕ) → before i ≡ Some x → after (number_by numbers i) ≡ Some x) where
  abbrev old : CType → Option Kind
  old t = kind_of target before t

  abbrev new : CType → Option Kind
  new t = kind_of target after (type_renumbered numbers t)

  abbrev Stays : CType → Type 0
  Stays t = (k : Kind) → old t ≡ Some k → new t ≡ Some k

  abbrev SigStays : Sig → Type 0
  SigStays s = is_sig target before s ≡ true → is_sig target after (sig_renumbered numbers s) ≡ true

  pointer_by : (q : Bool) (o p : Option Kind) (k : Kind) → ((k : Kind) → o ≡ Some k → p ≡ Some k) → qualified_kind q (shape_kind target before (shape.Pointer o)) ≡ Some k → qualified_kind q (shape_kind target after (shape.Pointer p)) ≡ Some k
  pointer_by q None p k s h = absurd (cc)
  pointer_by q (Some d) p k s h = ap (λ (o : Option Kind). qualified_kind q (shape_kind target after (shape.Pointer o))) (s d refl) ∙ h

  array_by : (q : Bool) (n : ℕ) (o p : Option Kind) (k : Kind) → ((k : Kind) → o ≡ Some k → p ≡ Some k) → qualified_kind q (shape_kind target before (shape.Array o n)) ≡ Some k → qualified_kind q (shape_kind target after (shape.Array p n)) ≡ Some k
  array_by q n None p k s h = absurd (cc)
  array_by q n (Some d) p k s h = ap (λ (o : Option Kind). qualified_kind q (shape_kind target after (shape.Array o n))) (s d refl) ∙ h

  structure_by : (q : Bool) (i : ℕ) (o : Option (Option ℕ)) (k : Kind) → before i ≡ o → qualified_kind q (extent_kind o) ≡ Some k → qualified_kind q (extent_kind (after (number_by numbers i))) ≡ Some k
  structure_by q i None k e h = absurd (cc)
  structure_by q i (Some x) k e h = ap (λ (o : Option (Option ℕ)). qualified_kind q (extent_kind o)) (kept i x e) ∙ h

  function_by : (q good later : Bool) (k : Kind) → (good ≡ true → later ≡ true) → qualified_kind q (shape_kind target before (shape.Func good)) ≡ Some k → qualified_kind q (shape_kind target after (shape.Func later)) ≡ Some k
  function_by q false later k s h = absurd (cc)
  function_by q true later k s h = ap (λ (b : Bool). qualified_kind q (shape_kind target after (shape.Func b))) (s refl) ∙ h

  shape_stays : (q : Bool) (x : shape.Shape-F Shape CType Sig) → TypeParts Stays SigStays x → (k : Kind) → qualified_kind q (shape_kind target before (parts_kind target before x)) ≡ Some k →
      qualified_kind q (shape_kind target after (parts_kind target after (renumbered_level numbers x))) ≡ Some k
  shape_stays q shape.Void h k e = e
  shape_stays q (shape.Int t) h k e = e
  shape_stays q (shape.Pointer to) h k e = pointer_by q (old to) (new to) k h e
  shape_stays q (shape.Array of n) h k e = array_by q n (old of) (new of) k h e
  shape_stays q (shape.Struct i) h k e = structure_by q i (before i) k refl e
  shape_stays q (shape.Func s) h k e = function_by q (is_sig target before s) (is_sig target after (sig_renumbered numbers s)) k h e

  kind_at : (extents : ℕ → Option (Option ℕ)) (t : CType) (x : shape.Shape-F Shape CType Sig) → out-Shape t.shape ≡ x → kind_of target extents t ≡ qualified_kind (t.constant || t.volatile) (shape_kind target extents (parts_kind target extents x))
  kind_at extents t x e = kind-opens target extents t ∙ ap (λ y. qualified_kind (t.constant || t.volatile) (shape_kind target extents (parts_kind target extents y))) e

  made : (t : CType) (x : shape.Shape-F Shape CType Sig) → out-Shape t.shape ≡ x → TypeParts Stays SigStays x → Stays t
  made t x e h k f =
      let u = type_renumbered numbers t in
      let flags : (u.constant || u.volatile) ≡ (t.constant || t.volatile) = ap (λ (b : Bool). b || u.volatile) (constant-kept numbers t) ∙ ap (λ (b : Bool). t.constant || b) (volatile-kept numbers t) in
      kind_at after u (renumbered_level numbers x) (level-renumbered numbers t x e)
      ∙ (ap (λ (q : Bool). qualified_kind q (shape_kind target after (parts_kind target after (renumbered_level numbers x)))) flags
      ∙ shape_stays (t.constant || t.volatile) x h k (sym (kind_at before t x e) ∙ f))

  -- ---- functions

  abbrev sig_in : (ℕ → Option (Option ℕ)) → shape.Sig-F Shape CType Sig → Bool
  sig_in extents x = is_result (kind_of target extents x.result) && list_all is_plain_scalar (map (kind_of target extents) x.params)

  sig-at : (extents : ℕ → Option (Option ℕ)) (s : Sig) (x : shape.Sig-F Shape CType Sig) → out-Sig s ≡ x → is_sig target extents s ≡ sig_in extents x
  unfolding is_sig kind_of
  sig-at extents s x e = fold_out-Sig (Option Kind) (Option Kind) Bool (shape_kind target extents) type_kind is_signature s ∙ ap (sig_in extents) e

  result_by : (o p : Option Kind) → ((k : Kind) → o ≡ Some k → p ≡ Some k) → is_result o ≡ true → is_result p ≡ true
  result_by None p s h = absurd (cc)
  result_by (Some k) p s h = ap is_result (s k refl) ∙ h

  scalar_by : (o p : Option Kind) → ((k : Kind) → o ≡ Some k → p ≡ Some k) → is_plain_scalar o ≡ true → is_plain_scalar p ≡ true
  scalar_by None p s h = absurd (cc)
  scalar_by (Some k) p s h = ap is_plain_scalar (s k refl) ∙ h

  both : (a b : Bool) → a ≡ true → b ≡ true → a && b ≡ true
  both true b h k = k
  both false b h k = absurd (cc)

  params_by : (ts : List CType) → Each Stays ts → list_all is_plain_scalar (map (kind_of target before) ts) ≡ true → list_all is_plain_scalar (map (kind_of target after) (map (type_renumbered numbers) ts)) ≡ true
  params_by [] s h = refl
  params_by (t ∷ ts) s h =
      let b = both_true (is_plain_scalar (old t)) (list_all is_plain_scalar (map (kind_of target before) ts)) h in
      both (is_plain_scalar (new t)) (list_all is_plain_scalar (map (kind_of target after) (map (type_renumbered numbers) ts))) (scalar_by (old t) (new t) s.0 b.0) (params_by ts s.1 b.1)

  sig_made : (s : Sig) (x : shape.Sig-F Shape CType Sig) → out-Sig s ≡ x → SigParts Stays SigStays x → SigStays s
  sig_made s x e h f =
      let b = both_true (is_result (old x.result)) (list_all is_plain_scalar (map (kind_of target before) x.params)) (sym (sig-at before s x e) ∙ f) in
      sig-at after (sig_renumbered numbers s) (renumbered_sig_level numbers x) (sig_level numbers s x e)
      ∙ both (is_result (new x.result)) (list_all is_plain_scalar (map (kind_of target after) (map (type_renumbered numbers) x.params))) (result_by (old x.result) (new x.result) h.0 b.0) (params_by x.params h.1 b.1)

  pub kind_kept : (t : CType) → Stays t
  kind_kept = by_type Stays SigStays (λ constant volatile x h. made (with_shape constant volatile (roll-Shape x)) x (out-roll-Shape x) h) (λ x h. sig_made (roll-Sig x) x (out-roll-Sig x) h)

  pub sig_kind_kept : (s : Sig) → SigStays s
  sig_kind_kept = by_sig Stays SigStays (λ constant volatile x h. made (with_shape constant volatile (roll-Shape x)) x (out-roll-Shape x) h) (λ x h. sig_made (roll-Sig x) x (out-roll-Sig x) h)

  -- a test that no missing kind passes
  pub test_kept : (test : Option Kind → Bool) → test None ≡ false → (t : CType) → test (old t) ≡ true → test (new t) ≡ true
  test_kept test none t h = by (old t) refl h
    where
      by : (o : Option Kind) → old t ≡ o → test o ≡ true → test (new t) ≡ true
      by None e h = absurd (cc (sym none ∙ h))
      by (Some k) e h = ap test (kind_kept t k e) ∙ h
