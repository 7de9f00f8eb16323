-- Types that are complete over some structures are so by other numbers, where these are complete, and have their layouts.
use Rattle.std.proofs.Common.{◌≡◌, ◌∙◌, ℕ, Bool, true, true≢false, List, slice_get, refl, ap, sym}
use Rattle.std.specs.Prelude.{nat_lt, unwrap_or}
use Rattle.cc_program.specs.CcNum.declared.target.Target.{Target}
use Rattle.cc_program.proofs.TypeInduction.{with_shape, TypeParts, by_type}
use Rattle.cc_program.specs.declared.types.CType.{CType, fold_out-CType}
use Rattle.cc_program.specs.declared.types.Shape.{Shape, fold-Shape, fold_out-Shape, map-Shape, out-Shape, out-roll-Shape, roll-Shape}
use Rattle.cc_program.specs.declared.types.Shape.TheOpen as shape
use Rattle.cc_program.specs.declared.types.Sig.{Sig, fold-Sig}
use Rattle.cc_program.specs.declared.types.Structure.{Structure}
use Rattle.cc_sound_terms.specs.Ordered.{complete_over, is_among, is_complete_over}
use Rattle.cc_structures.proofs.WordLaws.{level-renumbered, number_by, renumbered_level}
use Rattle.cc_terms.proofs.CcSyntax.Prefixes.{both_true}
use Rattle.cc_terms.proofs.CcSyntax.TypeLayouts.{complete-opens, layout-opens, parts_complete, parts_layout}
use Rattle.cc_terms.specs.CcSyntax.Layout.{nothing, shape_layout, type_layout}
use Rattle.cc_terms.specs.CcSyntax.Types.{complete_shape, has_members, is_complete}
use Rattle.cc_terms.specs.CcSyntax.declared.sizes.Layout.{Layout}
use Rattle.cc_terms.specs.CcUnit.Renumbered.{type_renumbered}

module _ (front : List ℕ) where
  abbrev parts_over : shape.Shape-F Shape CType Sig → shape.Shape-F Bool Bool (Unit {0})
  parts_over x = map-Shape Shape CType Sig Bool Bool (Unit {0})
      (fold-Shape Bool Bool (Unit {0}) (complete_over front) (λ t. t.shape) (λ s. tt))
      (is_complete_over front)
      (fold-Sig Bool Bool (Unit {0}) (complete_over front) (λ t. t.shape) (λ s. tt)) x

  over-opens : (t : CType) → is_complete_over front t ≡ complete_over front (parts_over (out-Shape t.shape))
  unfolding is_complete_over
  over-opens t =
      fold_out-CType Bool Bool (Unit {0}) (complete_over front) (λ t. t.shape) (λ s. tt) t
      ∙ fold_out-Shape Bool Bool (Unit {0}) (complete_over front) (λ t. t.shape) (λ s. tt) t.shape

  over-at : (t : CType) (x : shape.Shape-F Shape CType Sig) → out-Shape t.shape ≡ x → is_complete_over front t ≡ complete_over front (parts_over x)
  over-at t x e = over-opens t ∙ ap (λ y. complete_over front (parts_over y)) e

  module _ (numbers : List ℕ) (structures : List Structure) (kept : (j : ℕ) → is_among front j ≡ true → has_members (slice_get structures (number_by numbers j)) ≡ true) where
    abbrev IsComplete : CType → Type 0
    IsComplete t = is_complete_over front t ≡ true → is_complete structures (type_renumbered numbers t) ≡ true

    complete_level : (x : shape.Shape-F Shape CType Sig) → TypeParts IsComplete (λ s. Unit {0}) x → complete_over front (parts_over x) ≡ true → complete_shape structures (parts_complete structures (renumbered_level numbers x)) ≡ true
    complete_level shape.Void h e = absurd (true≢false (sym e))
    complete_level (shape.Int t) h e = refl
    complete_level (shape.Pointer to) h e = refl
    complete_level (shape.Array of n) h e = let b = both_true (nat_lt 0 n) (is_complete_over front of) e in rw (b.0, h b.1) refl
    complete_level (shape.Struct i) h e = kept i e
    complete_level (shape.Func s) h e = absurd (true≢false (sym e))

    complete_made : (t : CType) (x : shape.Shape-F Shape CType Sig) → out-Shape t.shape ≡ x → TypeParts IsComplete (λ s. Unit {0}) x → IsComplete t
    complete_made t x e h c =
        complete-opens structures (type_renumbered numbers t)
        ∙ (ap (λ y. complete_shape structures (parts_complete structures y)) (level-renumbered numbers t x e) ∙ complete_level x h (sym (over-at t x e) ∙ c))

    pub complete_there : (t : CType) → IsComplete t
    complete_there = by_type IsComplete (λ s. Unit {0}) (λ constant volatile x h. complete_made (with_shape constant volatile (roll-Shape x)) x (out-roll-Shape x) h) (λ x h. tt)

  module _ (numbers : List ℕ) (target : Target) (ls ms : List Layout) (agree : (j : ℕ) → is_among front j ≡ true → unwrap_or (slice_get ms (number_by numbers j)) nothing ≡ unwrap_or (slice_get ls j) nothing) where
    abbrev IsLaid : CType → Type 0
    IsLaid t = is_complete_over front t ≡ true → type_layout target ms (type_renumbered numbers t) ≡ type_layout target ls t

    laid_level : (x : shape.Shape-F Shape CType Sig) → TypeParts IsLaid (λ s. Unit {0}) x → complete_over front (parts_over x) ≡ true →
        shape_layout target ms (parts_layout target ms (renumbered_level numbers x)) ≡ shape_layout target ls (parts_layout target ls x)
    laid_level shape.Void h e = refl
    laid_level (shape.Int t) h e = refl
    laid_level (shape.Pointer to) h e = refl
    laid_level (shape.Array of n) h e = ap (λ (l : Layout). shape_layout target ms (shape.Array l n)) (h (both_true (nat_lt 0 n) (is_complete_over front of) e).1)
    laid_level (shape.Struct i) h e = agree i e
    laid_level (shape.Func s) h e = refl

    laid_made : (t : CType) (x : shape.Shape-F Shape CType Sig) → out-Shape t.shape ≡ x → TypeParts IsLaid (λ s. Unit {0}) x → IsLaid t
    laid_made t x e h c =
        layout-opens target ms (type_renumbered numbers t)
        ∙ (ap (λ y. shape_layout target ms (parts_layout target ms y)) (level-renumbered numbers t x e)
        ∙ (laid_level x h (sym (over-at t x e) ∙ c) ∙ sym (layout-opens target ls t ∙ ap (λ y. shape_layout target ls (parts_layout target ls y)) e)))

    pub laid_there : (t : CType) → IsLaid t
    laid_there = by_type IsLaid (λ s. Unit {0}) (λ constant volatile x h. laid_made (with_shape constant volatile (roll-Shape x)) x (out-roll-Shape x) h) (λ x h. tt)
