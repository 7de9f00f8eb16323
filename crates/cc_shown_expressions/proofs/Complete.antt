-- What is complete in a program is complete behind the structures of its text, and of the same size.
use Rattle.std.proofs.Common.{◌≡◌, ◌*◌, ℕ, true, List, length, Option, Some, None, refl, ap, sym, ◌∙◌, slice_get, unwrap_or}
use Rattle.std.specs.Prelude.{nat_lt}
use Rattle.std.proofs.lemmas.List.{length-map}
use Rattle.cc_program.specs.declared.program.Program.{Program}
use Rattle.cc_program.specs.declared.types.CType.{CType}
use Rattle.cc_program.specs.declared.types.Shape.{Shape, out-Shape, roll-Shape, out-roll-Shape}
use Rattle.cc_program.specs.declared.types.Shape.TheOpen as shape
use Rattle.cc_program.specs.declared.types.Sig.{Sig}
use Rattle.cc_program.specs.declared.types.Structure.{Structure}
use Rattle.cc_program.proofs.TypeInduction.{with_shape, TypeParts, by_type}
use Rattle.cc_terms.specs.CcScopes.State.{State, structures_of, layouts_of}
use Rattle.cc_terms.specs.CcSpecifiers.Objects.{is_object}
use Rattle.cc_terms.specs.CcSyntax.Kinds.{Kind, bytes_in, is_small}
use Rattle.cc_terms.specs.CcSyntax.Programs.{kind_in}
use Rattle.cc_terms.specs.CcSyntax.Layout.{nothing, shape_layout, type_layout, layouts}
use Rattle.cc_terms.specs.CcSyntax.Operators.{points_to_object, has_difference}
use Rattle.cc_terms.specs.CcSyntax.Sizes.{AreSized}
use Rattle.cc_terms.specs.CcSyntax.Types.{has_members, complete_shape, is_complete}
use Rattle.cc_terms.specs.CcSyntax.Values.{ValueType, NoValue, Integer, ToObject, ToFunction}
use Rattle.cc_terms.specs.CcSyntax.declared.sizes.Layout.{Layout}
use Rattle.cc_terms.proofs.CcSyntax.Prefixes.{both_true}
use Rattle.cc_terms.proofs.CcSyntax.SameLemmas.{and_true}
use Rattle.cc_terms.proofs.CcSyntax.SizeLemmas.{has_bytes}
use Rattle.cc_terms.proofs.CcSyntax.TypeLayouts.{parts_layout, layout-opens, parts_complete, complete-opens}
use Rattle.cc_shown_expressions.specs.Known.{KnowsStructures}
use Rattle.cc_shown_expressions.specs.Numbers.{type_numbered, named_numbered, value_numbered}
use Rattle.cc_shown_expressions.proofs.Numbering.{level, level-at}

has-some : (o : Option Structure) → has_members o ≡ true → (t : Structure) × (o ≡ Some t)
has-some None h = absurd (cc)
has-some (Some t) h = (t, refl)

module _ (p : Program) (number : ℕ → ℕ) (s : State) (known : KnowsStructures p number s) where
  abbrev numbered : CType → CType
  numbered t = type_numbered number t

  abbrev CompleteAt : CType → Type 0
  CompleteAt t = is_complete p.structures t ≡ true → is_complete (structures_of s) (numbered t) ≡ true

  abbrev NoClaim : Sig → Type 0
  NoClaim s = Unit {0}

  struct-complete : (i : ℕ) (o : Option Structure) → slice_get p.structures i ≡ o → has_members o ≡ true → has_members (slice_get (structures_of s) (number i)) ≡ true
  struct-complete i None e h = absurd (cc)
  struct-complete i (Some t) e h = ap has_members (known.structures i t e) ∙ ap (nat_lt 0) (length-map t.members (named_numbered number)) ∙ h

  level-complete : (x : shape.Shape-F Shape CType Sig) → TypeParts CompleteAt NoClaim x → complete_shape p.structures (parts_complete p.structures x) ≡ true →
      complete_shape (structures_of s) (parts_complete (structures_of s) (level number x)) ≡ true
  level-complete shape.Void h k = absurd (cc)
  level-complete (shape.Int t) h k = refl
  level-complete (shape.Pointer to) h k = refl
  level-complete (shape.Array of n) h k = let b = both_true (nat_lt 0 n) (is_complete p.structures of) k in and_true (nat_lt 0 n) (is_complete (structures_of s) (numbered of)) b.0 (h b.1)
  level-complete (shape.Struct i) h k = struct-complete i (slice_get p.structures i) refl k
  level-complete (shape.Func sig) h k = absurd (cc)

  complete-at : (t : CType) (x : shape.Shape-F Shape CType Sig) → out-Shape t.shape ≡ x → TypeParts CompleteAt NoClaim x → CompleteAt t
  complete-at t x e h k =
      complete-opens (structures_of s) (numbered t) ∙ ap (λ y. complete_shape (structures_of s) (parts_complete (structures_of s) y)) (level-at number t x e)
      ∙ level-complete x h (sym (complete-opens p.structures t ∙ ap (λ y. complete_shape p.structures (parts_complete p.structures y)) e) ∙ k)

  pub complete-numbered : (t : CType) → is_complete p.structures t ≡ true → is_complete (structures_of s) (numbered t) ≡ true
  complete-numbered = by_type CompleteAt NoClaim (λ constant volatile x h. complete-at (with_shape constant volatile (roll-Shape x)) x (out-roll-Shape x) h) (λ x h. tt)

  -- ---- sizes

  abbrev old : List Layout
  old = layouts p.target p.structures

  abbrev LaidAt : CType → Type 0
  LaidAt t = is_complete p.structures t ≡ true → type_layout p.target (layouts_of s) (numbered t) ≡ type_layout p.target old t

  struct-laid : (i : ℕ) (o : Option Structure) → slice_get p.structures i ≡ o → has_members o ≡ true → unwrap_or (slice_get (layouts_of s) (number i)) nothing ≡ unwrap_or (slice_get old i) nothing
  struct-laid i None e h = absurd (cc)
  struct-laid i (Some t) e h = ap (λ (l : Option Layout). unwrap_or l nothing) (known.layouts i t e)

  level-laid : (x : shape.Shape-F Shape CType Sig) → TypeParts LaidAt NoClaim x → complete_shape p.structures (parts_complete p.structures x) ≡ true →
      shape_layout p.target (layouts_of s) (parts_layout p.target (layouts_of s) (level number x)) ≡ shape_layout p.target old (parts_layout p.target old x)
  level-laid shape.Void h k = absurd (cc)
  level-laid (shape.Int t) h k = refl
  level-laid (shape.Pointer to) h k = refl
  level-laid (shape.Array of n) h k =
      ap (λ (l : Layout). record { size = n * l.size; align = l.align }) (h (both_true (nat_lt 0 n) (is_complete p.structures of) k).1)
  level-laid (shape.Struct i) h k = struct-laid i (slice_get p.structures i) refl k
  level-laid (shape.Func sig) h k = absurd (cc)

  laid-at : (t : CType) (x : shape.Shape-F Shape CType Sig) → out-Shape t.shape ≡ x → TypeParts LaidAt NoClaim x → LaidAt t
  laid-at t x e h k =
      layout-opens p.target (layouts_of s) (numbered t) ∙ ap (λ y. shape_layout p.target (layouts_of s) (parts_layout p.target (layouts_of s) y)) (level-at number t x e)
      ∙ level-laid x h (sym (complete-opens p.structures t ∙ ap (λ y. complete_shape p.structures (parts_complete p.structures y)) e) ∙ k)
      ∙ sym (layout-opens p.target old t ∙ ap (λ y. shape_layout p.target old (parts_layout p.target old y)) e)

  pub layout-numbered : (t : CType) → is_complete p.structures t ≡ true → type_layout p.target (layouts_of s) (numbered t) ≡ type_layout p.target old t
  layout-numbered = by_type LaidAt NoClaim (λ constant volatile x h. laid-at (with_shape constant volatile (roll-Shape x)) x (out-roll-Shape x) h) (λ x h. tt)

  -- ---- what may be an element

  pub object-numbered : AreSized p.structures p.target → (t : CType) (k : Kind) (n : ℕ) → kind_in p t ≡ Some k → bytes_in k ≡ Some n → is_small n ≡ true → is_object p.target (structures_of s) (layouts_of s) (numbered t) ≡ true
  object-numbered sized t k n e b small =
      let h = has_bytes p.structures (length p.structures) p.target sized t k n e b in
      and_true (is_complete (structures_of s) (numbered t)) (is_small (type_layout p.target (layouts_of s) (numbered t)).size) (complete-numbered t h.complete)
      (ap (λ (l : Layout). is_small l.size) (layout-numbered t h.complete) ∙ ap is_small h.size ∙ small)

  -- ---- what pointers point to

  pub points-numbered : (v : ValueType) → points_to_object p.structures v ≡ true → points_to_object (structures_of s) (value_numbered number v) ≡ true
  points-numbered NoValue h = absurd (cc)
  points-numbered (Integer t) h = absurd (cc)
  points-numbered (ToObject constant volatile t) h = complete-numbered t h
  points-numbered (ToFunction sig) h = absurd (cc)

  pub difference-numbered : (v : ValueType) → has_difference p.structures v ≡ true → has_difference (structures_of s) (value_numbered number v) ≡ true
  difference-numbered NoValue h = absurd (cc)
  difference-numbered (Integer t) h = absurd (cc)
  difference-numbered (ToObject constant volatile t) h = complete-numbered t h
  difference-numbered (ToFunction sig) h = refl
