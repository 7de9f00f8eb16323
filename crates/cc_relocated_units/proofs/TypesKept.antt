-- What types with other numbers of structures keep, where the structures of these numbers keep it: that they are complete, their layouts
-- and their kinds. A structure that was incomplete may be complete then.
use Rattle.std.proofs.Common.{◌≡◌, ◌∙◌, ◌⊎◌, inl, inr, ℕ, ◌||◌, Bool, true, false, true≢false, nat_lt, List, [], ◌∷◌, map, Option, Some, None, slice_get, unwrap_or, refl, ap, sym, subst}
use Rattle.std.specs.List.{list_all}
use Rattle.cc_program.specs.CcNum.declared.target.Target.{Target}
use Rattle.cc_program.specs.declared.types.CType.{CType}
use Rattle.cc_program.specs.declared.types.Shape.{Shape, out-Shape, roll-Shape, out-roll-Shape}
use Rattle.cc_program.specs.declared.types.Shape.TheOpen as shape
use Rattle.cc_program.specs.declared.types.Sig.{Sig, fold_out-Sig, out-Sig, roll-Sig, out-roll-Sig}
use Rattle.cc_program.specs.declared.types.Structure.{Structure}
use Rattle.cc_program.proofs.Each.{Each}
use Rattle.cc_program.proofs.TypeInduction.{with_shape, TypeParts, SigParts, by_type}
use Rattle.cc_structures.proofs.WordLaws.{number_by, renumbered_level, level-renumbered, constant-kept, volatile-kept, renumbered_sig_level, sig_level}
use Rattle.cc_operands.specs.CcSyntax.Kinds.{Kind, IsStructure, IsIncomplete, shape_kind, type_kind, is_signature, qualified_kind, kind_of, is_sig, is_result, is_plain_scalar, is_object_type, struct_kind, extent_with}
use Rattle.cc_operands.specs.CcSyntax.Layout.{nothing, shape_layout, type_layout}
use Rattle.cc_operands.specs.CcSyntax.Types.{has_members, complete_shape, is_complete}
use Rattle.cc_operands.specs.CcSyntax.declared.sizes.Layout.{Layout}
use Rattle.cc_operands.proofs.CcSyntax.KindRolls.{parts_kind, kind-opens}
use Rattle.cc_operands.proofs.CcSyntax.Prefixes.{both_true}
use Rattle.cc_operands.proofs.CcSyntax.TypeLayouts.{parts_layout, layout-opens, parts_complete, complete-opens}
use Rattle.cc_unit.specs.Renumbered.{type_renumbered, sig_renumbered}

-- ---- one level

complete-at : (structures : List Structure) (t : CType) (x : shape.Shape-F Shape CType Sig) → out-Shape t.shape ≡ x → is_complete structures t ≡ complete_shape structures (parts_complete structures x)
complete-at structures t x e = complete-opens structures t ∙ ap (λ y. complete_shape structures (parts_complete structures y)) e

layout-at : (target : Target) (ls : List Layout) (t : CType) (x : shape.Shape-F Shape CType Sig) → out-Shape t.shape ≡ x → type_layout target ls t ≡ shape_layout target ls (parts_layout target ls x)
layout-at target ls t x e = layout-opens target ls t ∙ ap (λ y. shape_layout target ls (parts_layout target ls y)) e

kind-at : (structures : List Structure) (count : ℕ) (target : Target) (t : CType) (x : shape.Shape-F Shape CType Sig) → out-Shape t.shape ≡ x →
    kind_of target (extent_with structures count target) t ≡ qualified_kind (t.constant || t.volatile) (shape_kind target (extent_with structures count target) (parts_kind target (extent_with structures count target) x))
kind-at structures count target t x e = kind-opens target (extent_with structures count target) t ∙ ap (λ y. qualified_kind (t.constant || t.volatile) (shape_kind target (extent_with structures count target) (parts_kind target (extent_with structures count target) y))) e

abbrev sig_in : List Structure → ℕ → Target → shape.Sig-F Shape CType Sig → Bool
sig_in structures count target x = is_signature (record { result = kind_of target (extent_with structures count target) x.result; params = map (kind_of target (extent_with structures count target)) x.params })

sig-at : (structures : List Structure) (count : ℕ) (target : Target) (s : Sig) (x : shape.Sig-F Shape CType Sig) → out-Sig s ≡ x → is_sig target (extent_with structures count target) s ≡ sig_in structures count target x
unfolding kind_of is_sig
sig-at structures count target s x e =
    fold_out-Sig (Option Kind) (Option Kind) Bool (shape_kind target (extent_with structures count target)) type_kind is_signature s ∙ ap (sig_in structures count target) e

-- ---- complete types

module _ (numbers : List ℕ) (old new : List Structure) (kept : (k : ℕ) → has_members (slice_get old k) ≡ true → has_members (slice_get new (number_by numbers k)) ≡ true) where
  abbrev StaysComplete : CType → Type 0
  StaysComplete t = is_complete old t ≡ true → is_complete new (type_renumbered numbers t) ≡ true

  level-complete : (x : shape.Shape-F Shape CType Sig) → TypeParts StaysComplete (λ s. Unit {0}) x → complete_shape old (parts_complete old x) ≡ true → complete_shape new (parts_complete new (renumbered_level numbers x)) ≡ true
  level-complete shape.Void h c = c
  level-complete (shape.Int t) h c = refl
  level-complete (shape.Pointer t) h c = refl
  level-complete (shape.Array t n) h c = let b = both_true (nat_lt 0 n) (is_complete old t) c in rw (b.0, h b.1) refl
  level-complete (shape.Struct k) h c = kept k c
  level-complete (shape.Func s) h c = c

  complete-made : (t : CType) (x : shape.Shape-F Shape CType Sig) → out-Shape t.shape ≡ x → TypeParts StaysComplete (λ s. Unit {0}) x → StaysComplete t
  complete-made t x e h c =
      complete-at new (type_renumbered numbers t) (renumbered_level numbers x) (level-renumbered numbers t x e) ∙ level-complete x h (sym (complete-at old t x e) ∙ c)

  pub complete-kept : (t : CType) → is_complete old t ≡ true → is_complete new (type_renumbered numbers t) ≡ true
  complete-kept = by_type StaysComplete (λ s. Unit {0}) (λ constant volatile x h. complete-made (with_shape constant volatile (roll-Shape x)) x (out-roll-Shape x) h) (λ x h. tt)

-- ---- layouts of complete types

module _ (numbers : List ℕ) (target : Target) (old new : List Structure) (ls ms : List Layout)
    (agree : (k : ℕ) → has_members (slice_get old k) ≡ true → has_members (slice_get new (number_by numbers k)) ≡ true → unwrap_or (slice_get ms (number_by numbers k)) nothing ≡ unwrap_or (slice_get ls k) nothing) where
  abbrev KeepsLayout : CType → Type 0
  KeepsLayout t = is_complete old t ≡ true → is_complete new (type_renumbered numbers t) ≡ true → type_layout target ms (type_renumbered numbers t) ≡ type_layout target ls t

  level-layout : (x : shape.Shape-F Shape CType Sig) → TypeParts KeepsLayout (λ s. Unit {0}) x → complete_shape old (parts_complete old x) ≡ true → complete_shape new (parts_complete new (renumbered_level numbers x)) ≡ true →
      shape_layout target ms (parts_layout target ms (renumbered_level numbers x)) ≡ shape_layout target ls (parts_layout target ls x)
  level-layout shape.Void h c d = refl
  level-layout (shape.Int t) h c d = refl
  level-layout (shape.Pointer t) h c d = refl
  level-layout (shape.Array t n) h c d =
      let e = h (both_true (nat_lt 0 n) (is_complete old t) c).1 (both_true (nat_lt 0 n) (is_complete new (type_renumbered numbers t)) d).1 in
      ap (λ (l : Layout). shape_layout target ms (shape.Array l n)) e
  level-layout (shape.Struct k) h c d = agree k c d
  level-layout (shape.Func s) h c d = refl

  layout-made : (t : CType) (x : shape.Shape-F Shape CType Sig) → out-Shape t.shape ≡ x → TypeParts KeepsLayout (λ s. Unit {0}) x → KeepsLayout t
  layout-made t x e h c d =
      let f = level-renumbered numbers t x e in
      layout-at target ms (type_renumbered numbers t) (renumbered_level numbers x) f
      ∙ (level-layout x h (sym (complete-at old t x e) ∙ c) (sym (complete-at new (type_renumbered numbers t) (renumbered_level numbers x) f) ∙ d)
      ∙ sym (layout-at target ls t x e))

  pub layout-kept : (t : CType) → is_complete old t ≡ true → is_complete new (type_renumbered numbers t) ≡ true → type_layout target ms (type_renumbered numbers t) ≡ type_layout target ls t
  layout-kept = by_type KeepsLayout (λ s. Unit {0}) (λ constant volatile x h. layout-made (with_shape constant volatile (roll-Shape x)) x (out-roll-Shape x) h) (λ x h. tt)

-- ---- kinds

-- a kind stays, where there is one; or, where Grows, it becomes that of a complete structure
abbrev pub IsBelow : Type 0 → Option Kind → Option Kind → Type 0
IsBelow Grows o p = (o ≡ None) ⊎ ((o ≡ p) ⊎ (Grows × ((o ≡ Some IsIncomplete) × ((n : ℕ) × (p ≡ Some (IsStructure n))))))

missing : (k : Kind) → None ≡ Some k → ⊥
missing k e = cc e

pub object-kept : (Grows : Type 0) (o p : Option Kind) → IsBelow Grows o p → is_object_type o ≡ true → is_object_type p ≡ true
object-kept Grows o p (inl e) h = absurd (true≢false (sym h ∙ ap is_object_type e))
object-kept Grows o p (inr (inl e)) h = sym (ap is_object_type e) ∙ h
object-kept Grows o p (inr (inr g)) h = absurd (true≢false (sym h ∙ ap is_object_type g.1.0))

pub kind-stays : (o p : Option Kind) (k : Kind) → IsBelow ⊥ o p → o ≡ Some k → p ≡ Some k
kind-stays o p k (inl e) h = absurd (missing k (sym e ∙ h))
kind-stays o p k (inr (inl e)) h = sym e ∙ h
kind-stays o p k (inr (inr g)) h = absurd g.0

module _ (Grows : Type 0) (numbers : List ℕ) (old new : List Structure) (old_count new_count : ℕ) (target : Target)
    (below : (k : ℕ) → IsBelow Grows (struct_kind old old_count target k) (struct_kind new new_count target (number_by numbers k))) where
  abbrev old_kind : CType → Option Kind
  old_kind t = kind_of target (extent_with old old_count target) t

  abbrev new_kind : CType → Option Kind
  new_kind t = kind_of target (extent_with new new_count target) (type_renumbered numbers t)

  abbrev IsKept : CType → Type 0
  IsKept t = IsBelow Grows (old_kind t) (new_kind t)

  abbrev SigKept : Sig → Type 0
  SigKept s = is_sig target (extent_with old old_count target) s ≡ true → is_sig target (extent_with new new_count target) (sig_renumbered numbers s) ≡ true

  qualified-same : (q : Bool) (o : Option Kind) → qualified_kind q o ≡ qualified_kind q o
  qualified-same q None = refl
  qualified-same q (Some k) = refl

  pointer-same : (o : Option Kind) → shape_kind target (extent_with old old_count target) (shape.Pointer o) ≡ shape_kind target (extent_with new new_count target) (shape.Pointer o)
  pointer-same None = refl
  pointer-same (Some k) = refl

  array-same : (n : ℕ) (o : Option Kind) → shape_kind target (extent_with old old_count target) (shape.Array o n) ≡ shape_kind target (extent_with new new_count target) (shape.Array o n)
  array-same n None = refl
  array-same n (Some k) = refl

  qualified-below : (q : Bool) (o p : Option Kind) → IsBelow Grows o p → IsBelow Grows (qualified_kind q o) (qualified_kind q p)
  qualified-below q o p (inl e) = inl (ap (qualified_kind q) e)
  qualified-below q o p (inr (inl e)) = inr (inl (ap (qualified_kind q) e ∙ qualified-same q p))
  qualified-below q o p (inr (inr g)) = inr (inr (g.0, (ap (qualified_kind q) g.1.0, (g.1.1.0, ap (qualified_kind q) g.1.1.1))))

  pointer-below : (o p : Option Kind) → IsBelow Grows o p → IsBelow Grows (shape_kind target (extent_with old old_count target) (shape.Pointer o)) (shape_kind target (extent_with new new_count target) (shape.Pointer p))
  pointer-below o p (inl e) = inl (ap (λ (k : Option Kind). shape_kind target (extent_with old old_count target) (shape.Pointer k)) e)
  pointer-below o p (inr (inl e)) = inr (inl (ap (λ (k : Option Kind). shape_kind target (extent_with old old_count target) (shape.Pointer k)) e ∙ pointer-same p))
  pointer-below o p (inr (inr g)) =
      inr (inl (ap (λ (k : Option Kind). shape_kind target (extent_with old old_count target) (shape.Pointer k)) g.1.0 ∙ sym (ap (λ (k : Option Kind). shape_kind target (extent_with new new_count target) (shape.Pointer k)) g.1.1.1)))

  array-below : (n : ℕ) (o p : Option Kind) → IsBelow Grows o p → IsBelow Grows (shape_kind target (extent_with old old_count target) (shape.Array o n)) (shape_kind target (extent_with new new_count target) (shape.Array p n))
  array-below n o p (inl e) = inl (ap (λ (k : Option Kind). shape_kind target (extent_with old old_count target) (shape.Array k n)) e)
  array-below n o p (inr (inl e)) = inr (inl (ap (λ (k : Option Kind). shape_kind target (extent_with old old_count target) (shape.Array k n)) e ∙ array-same n p))
  array-below n o p (inr (inr g)) = inl (ap (λ (k : Option Kind). shape_kind target (extent_with old old_count target) (shape.Array k n)) g.1.0)

  func-below : (a b : Bool) → (a ≡ true → b ≡ true) → IsBelow Grows (shape_kind target (extent_with old old_count target) (shape.Func a)) (shape_kind target (extent_with new new_count target) (shape.Func b))
  func-below false b h = inl refl
  func-below true b h = inr (inl (sym (ap (λ (c : Bool). shape_kind target (extent_with new new_count target) (shape.Func c)) (h refl))))

  level-below : (x : shape.Shape-F Shape CType Sig) → TypeParts IsKept SigKept x →
      IsBelow Grows (shape_kind target (extent_with old old_count target) (parts_kind target (extent_with old old_count target) x)) (shape_kind target (extent_with new new_count target) (parts_kind target (extent_with new new_count target) (renumbered_level numbers x)))
  level-below shape.Void h = inr (inl refl)
  level-below (shape.Int t) h = inr (inl refl)
  level-below (shape.Pointer t) h = pointer-below (old_kind t) (new_kind t) h
  level-below (shape.Array t n) h = array-below n (old_kind t) (new_kind t) h
  level-below (shape.Struct k) h = below k
  level-below (shape.Func s) h = func-below (is_sig target (extent_with old old_count target) s) (is_sig target (extent_with new new_count target) (sig_renumbered numbers s)) h

  kind-made : (t : CType) (x : shape.Shape-F Shape CType Sig) → out-Shape t.shape ≡ x → TypeParts IsKept SigKept x → IsKept t
  kind-made t x e h =
      let u = type_renumbered numbers t in
      let flags : (u.constant || u.volatile) ≡ (t.constant || t.volatile) = ap (λ (b : Bool). b || u.volatile) (constant-kept numbers t) ∙ ap (λ (b : Bool). t.constant || b) (volatile-kept numbers t) in
      let opened : kind_of target (extent_with new new_count target) u ≡ qualified_kind (t.constant || t.volatile) (shape_kind target (extent_with new new_count target) (parts_kind target (extent_with new new_count target) (renumbered_level numbers x))) =
      kind-at new new_count target u (renumbered_level numbers x) (level-renumbered numbers t x e)
      ∙ ap (λ (q : Bool). qualified_kind q (shape_kind target (extent_with new new_count target) (parts_kind target (extent_with new new_count target) (renumbered_level numbers x)))) flags in
      let both : IsBelow Grows (qualified_kind (t.constant || t.volatile) (shape_kind target (extent_with old old_count target) (parts_kind target (extent_with old old_count target) x)))
      (qualified_kind (t.constant || t.volatile) (shape_kind target (extent_with new new_count target) (parts_kind target (extent_with new new_count target) (renumbered_level numbers x)))) =
      qualified-below (t.constant || t.volatile) (shape_kind target (extent_with old old_count target) (parts_kind target (extent_with old old_count target) x)) (shape_kind target (extent_with new new_count target) (parts_kind target (extent_with new new_count target) (renumbered_level numbers x))) (level-below x h) in
      subst (λ o. IsBelow Grows o (new_kind t)) (sym (kind-at old old_count target t x e)) (subst (λ p. IsBelow Grows (qualified_kind (t.constant || t.volatile) (shape_kind target (extent_with old old_count target) (parts_kind target (extent_with old old_count target) x))) p) (sym opened) both)

  result-kept : (o p : Option Kind) → IsBelow Grows o p → is_result o ≡ true → is_result p ≡ true
  result-kept o p (inl e) h = absurd (true≢false (sym h ∙ ap is_result e))
  result-kept o p (inr (inl e)) h = sym (ap is_result e) ∙ h
  result-kept o p (inr (inr g)) h = absurd (true≢false (sym h ∙ ap is_result g.1.0))

  scalar-kept : (o p : Option Kind) → IsBelow Grows o p → is_plain_scalar o ≡ true → is_plain_scalar p ≡ true
  scalar-kept o p (inl e) h = absurd (true≢false (sym h ∙ ap is_plain_scalar e))
  scalar-kept o p (inr (inl e)) h = sym (ap is_plain_scalar e) ∙ h
  scalar-kept o p (inr (inr g)) h = absurd (true≢false (sym h ∙ ap is_plain_scalar g.1.0))

  params-kept : (ts : List CType) → Each IsKept ts → list_all is_plain_scalar (map (kind_of target (extent_with old old_count target)) ts) ≡ true → list_all is_plain_scalar (map (kind_of target (extent_with new new_count target)) (map (type_renumbered numbers) ts)) ≡ true
  params-kept [] h c = refl
  params-kept (t ∷ ts) h c =
      let b = both_true (is_plain_scalar (old_kind t)) (list_all is_plain_scalar (map (kind_of target (extent_with old old_count target)) ts)) c in
      rw (scalar-kept (old_kind t) (new_kind t) h.0 b.0, params-kept ts h.1 b.1) refl

  sig-made : (s : Sig) (x : shape.Sig-F Shape CType Sig) → out-Sig s ≡ x → SigParts IsKept SigKept x → SigKept s
  sig-made s x e h c =
      let b = both_true (is_result (old_kind x.result)) (list_all is_plain_scalar (map (kind_of target (extent_with old old_count target)) x.params)) (sym (sig-at old old_count target s x e) ∙ c) in
      let r = result-kept (old_kind x.result) (new_kind x.result) h.0 b.0 in
      let ps = params-kept x.params h.1 b.1 in
      sig-at new new_count target (sig_renumbered numbers s) (renumbered_sig_level numbers x) (sig_level numbers s x e) ∙ both r ps
    where
      both : is_result (new_kind x.result) ≡ true → list_all is_plain_scalar (map (kind_of target (extent_with new new_count target)) (map (type_renumbered numbers) x.params)) ≡ true → sig_in new new_count target (renumbered_sig_level numbers x) ≡ true
      both r ps = rw (r, ps) refl

  pub kind-kept : (t : CType) → IsBelow Grows (kind_of target (extent_with old old_count target) t) (kind_of target (extent_with new new_count target) (type_renumbered numbers t))
  kind-kept = by_type IsKept SigKept (λ constant volatile x h. kind-made (with_shape constant volatile (roll-Shape x)) x (out-roll-Shape x) h) (λ x h. sig-made (roll-Sig x) x (out-roll-Sig x) h)
