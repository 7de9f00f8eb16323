-- A type that is complete has the same layout wherever the structures that are complete have theirs.
use Rattle.std.proofs.Common.{◌≡◌, ◌∙◌, ℕ, true, List, [], ◌∷◌, map, Option, Some, option_map, slice_get, refl, ap, sym}
use Rattle.std.specs.Prelude.{nat_lt, unwrap_or}
use Rattle.std.proofs.lemmas.Option.{slice_get-map}
use Rattle.cc_program.specs.CcNum.declared.target.Target.{Target}
use Rattle.cc_program.proofs.TypeInduction.{TypeParts, by_type}
use Rattle.cc_program.specs.declared.types.CType.{CType}
use Rattle.cc_program.specs.declared.types.Shape.{Shape}
use Rattle.cc_program.specs.declared.types.Shape.TheOpen as shape
use Rattle.cc_program.specs.declared.types.Sig.{Sig}
use Rattle.cc_program.specs.declared.types.Structure.{Structure}
use Rattle.cc_terms.specs.CcScopes.State.{KnownStructure, State, layouts_of, structures_of}
use Rattle.cc_sound_terms.proofs.Completeness.{content_at}
use Rattle.cc_sound_terms.specs.Growing.{StructuresKept}
use Rattle.cc_sound_terms.specs.Ordered.{AreComplete}
use Rattle.cc_terms.proofs.CcSyntax.Prefixes.{both_true}
use Rattle.cc_terms.proofs.CcSyntax.TypeLayouts.{complete-roll, layout-roll, parts_complete, parts_layout}
use Rattle.cc_terms.specs.CcSyntax.Layout.{nothing, shape_layout, type_layout}
use Rattle.cc_terms.specs.CcSyntax.Types.{Named, complete_shape, has_members, is_complete}
use Rattle.cc_terms.specs.CcSyntax.declared.sizes.Layout.{Layout}

module _ (target : Target) (structures : List Structure) (ls ms : List Layout) (agree : (k : ℕ) → has_members (slice_get structures k) ≡ true → unwrap_or (slice_get ls k) nothing ≡ unwrap_or (slice_get ms k) nothing) where
  abbrev Same : CType → Type 0
  Same t = is_complete structures t ≡ true → type_layout target ls t ≡ type_layout target ms t

  shape_same : (x : shape.Shape-F Shape CType Sig) → TypeParts Same (λ s. Unit {0}) x → complete_shape structures (parts_complete structures x) ≡ true →
      shape_layout target ls (parts_layout target ls x) ≡ shape_layout target ms (parts_layout target ms x)
  shape_same shape.Void h c = refl
  shape_same (shape.Int t) h c = refl
  shape_same (shape.Pointer t) h c = refl
  shape_same (shape.Array t n) h c = ap (λ (l : Layout). shape_layout target ls (shape.Array l n)) (h (both_true (nat_lt 0 n) (is_complete structures t) c).1)
  shape_same (shape.Struct k) h c = agree k c
  shape_same (shape.Func s) h c = refl

  pub layout_same : (t : CType) → Same t
  layout_same = by_type Same (λ s. Unit {0})
      (λ constant volatile x h c. layout-roll target ls constant volatile x ∙ (shape_same x h (sym (complete-roll structures constant volatile x) ∙ c) ∙ sym (layout-roll target ms constant volatile x)))
      (λ x h. tt)

-- layouts of what is complete stay
pub layouts_stay : (target : Target) (s t : State) → StructuresKept s.structures t.structures → (ms : List Named) → AreComplete ms s →
    map (λ (m : Named). type_layout target (layouts_of s) m.1) ms ≡ map (λ (m : Named). type_layout target (layouts_of t) m.1) ms
layouts_stay target s t kept [] h = refl
layouts_stay target s t kept (m ∷ ms) h = rw (layout_same target (structures_of s) (layouts_of s) (layouts_of t) agrees m.1 h.0, layouts_stay target s t kept ms h.1) refl
  where
    agrees : (k : ℕ) → has_members (slice_get (structures_of s) k) ≡ true → unwrap_or (slice_get (layouts_of s) k) nothing ≡ unwrap_or (slice_get (layouts_of t) k) nothing
    agrees k g =
        let c = content_at s.structures k g in
        let l = kept k c.1.0 c.1.1 in
        ap (λ (o : Option Layout). unwrap_or o nothing)
        (slice_get-map (λ (x : KnownStructure). x.layout) s.structures k
        ∙ (ap (option_map (λ (x : KnownStructure). x.layout)) c.1.1
        ∙ (ap (λ (y : Layout). Some y) (sym (l.2.layout c.0 c.1.2))
        ∙ sym (slice_get-map (λ (x : KnownStructure). x.layout) t.structures k ∙ ap (option_map (λ (x : KnownStructure). x.layout)) l.1))))
