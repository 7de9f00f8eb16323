-- The structures of a unit, each at its place.
use Rattle.std.proofs.Common.{◌≡◌, ◌∙◌, inl, inr, ℕ, zero, suc, List, [], ◌∷◌, ◌++◌, length, Option, Some, option_map, slice_get, refl, ap}
use Rattle.std.specs.Prelude.{option_to_list}
use Rattle.std.specs.List.{flat_map}
use Rattle.cc_numbering.specs.Structures.{structure_at, structure_in, structures_in}
use Rattle.cc_terms.specs.CcScopes.State.{KnownStructure}
use Rattle.cc_structures.proofs.Elements.{In}
use Rattle.cc_terms.specs.CcUnit.declared.unit.UnitStructure.{UnitStructure}

module _ (numbers : List ℕ) (all : List KnownStructure) where
  abbrev pub AllThere : List ℕ → Type 0
  AllThere order = (j : ℕ) → In j order → (k : KnownStructure) × (slice_get all j ≡ Some k)

  pub one-at : (j : ℕ) (k : KnownStructure) → slice_get all j ≡ Some k → structure_at numbers all j ≡ structure_in numbers k ∷ []
  one-at j k e = ap (λ (o : Option KnownStructure). option_to_list (option_map (structure_in numbers) o)) e

  pub built-at : (order : List ℕ) → AllThere order → (p i : ℕ) (k : KnownStructure) → slice_get order p ≡ Some i → slice_get all i ≡ Some k → slice_get (structures_in numbers all order) p ≡ Some (structure_in numbers k)
  built-at [] each p i k e f = absurd (cc)
  built-at (j ∷ js) each zero i k e f =
      let s : j ≡ i = cc e in
      ap (λ (l : List UnitStructure). slice_get (l ++ flat_map (structure_at numbers all) js) 0) (one-at j k (ap (slice_get all) s ∙ f))
  built-at (j ∷ js) each (suc p) i k e f =
      let x = each j (inl refl) in
      ap (λ (l : List UnitStructure). slice_get (l ++ flat_map (structure_at numbers all) js) (suc p)) (one-at j x.0 x.1) ∙ built-at js (λ n h. each n (inr h)) p i k e f

  pub built-length : (order : List ℕ) → AllThere order → length (structures_in numbers all order) ≡ length order
  built-length [] each = refl
  built-length (j ∷ js) each =
      let x = each j (inl refl) in
      ap (λ (l : List UnitStructure). length (l ++ flat_map (structure_at numbers all) js)) (one-at j x.0 x.1) ∙ ap suc (built-length js (λ n h. each n (inr h)))
