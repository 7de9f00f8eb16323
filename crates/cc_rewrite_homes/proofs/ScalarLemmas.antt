-- A scalar that is written, and the others.
use Rattle.std.proofs.Common.{◌≡◌, ℕ, zero, suc, List, [], ◌∷◌, Option, Some, None, option_map, slice_get, slice_set, refl, ap, sym, ◌∙◌, Bool, true, false, ◌⊎◌, inl, inr}
use Rattle.std.specs.Prelude.{option_and_then, ◌==◌}
use Rattle.std.proofs.lemmas.Bool.{eq-eqb, eqb-true}
use Rattle.cc_steps.specs.CcCells.Cells.{scalar_in, with_scalar}
use Rattle.cc_steps.proofs.CellsApart.{set_here, set_elsewhere, elsewhere, written_here}

set_nowhere : {A : Type 0} → (xs : List A) (k : ℕ) (v : A) → slice_get xs k ≡ None → slice_get (slice_set xs k v) k ≡ None
set_nowhere [] k v h = refl
set_nowhere (y ∷ xs) zero v h = absurd (cc)
set_nowhere (y ∷ xs) (suc k) v h = set_nowhere xs k v h

-- what is read behind a write of it
set_read : {A : Type 0} → (xs : List A) (k : ℕ) (v u : A) → slice_get (slice_set xs k v) k ≡ Some u → u ≡ v
set_read [] k v u h = absurd (cc)
set_read (y ∷ xs) zero v u h = cc
set_read (y ∷ xs) (suc k) v u h = set_read xs k v u h

one_by : (i j : ℕ) (b : Bool) → (i == j) ≡ b → (i ≡ j) ⊎ (i ≡ j → ⊥)
one_by i j true e = inl (eqb-true i j e)
one_by i j false e = inr (λ h. let f = eq-eqb i j h in absurd (cc))

both_by : (i j k l : ℕ) → (i ≡ j) ⊎ (i ≡ j → ⊥) → (k ≡ l) ⊎ (k ≡ l → ⊥) → ((i ≡ j) × (k ≡ l)) ⊎ (i ≡ j → k ≡ l → ⊥)
both_by i j k l (inl e) (inl f) = inl (e, f)
both_by i j k l (inl e) (inr f) = inr (λ _ h. f h)
both_by i j k l (inr e) y = inr (λ h _. e h)

-- one scalar, or another
pub both_or_not : (i j k l : ℕ) → ((i ≡ j) × (k ≡ l)) ⊎ (i ≡ j → k ≡ l → ⊥)
both_or_not i j k l = both_by i j k l (one_by i j (i == j) refl) (one_by k l (k == l) refl)

module _ {A : Type 0} (cells : List (List A)) (i k : ℕ) (v : A) where
  -- the scalars of the object that is written
  of_object : (j : ℕ) → scalar_in (with_scalar cells i k v) i j ≡ option_and_then (λ s. slice_get s j) (option_map (λ s. slice_set s k v) (slice_get cells i))
  of_object j = ap (option_and_then (λ s. slice_get s j)) (written_here cells i k v)

  there_by : (u : A) (x : Option (List A)) → option_and_then (λ s. slice_get s k) x ≡ Some u → option_and_then (λ s. slice_get s k) (option_map (λ s. slice_set s k v) x) ≡ Some v
  there_by u None h = absurd (cc)
  there_by u (Some s) h = set_here s k v u h

  -- the scalar that was written, where there is one
  pub written_there : (u : A) → scalar_in cells i k ≡ Some u → scalar_in (with_scalar cells i k v) i k ≡ Some v
  written_there u h = of_object k ∙ there_by u (slice_get cells i) h

  nowhere_by : (x : Option (List A)) → option_and_then (λ s. slice_get s k) x ≡ None → option_and_then (λ s. slice_get s k) (option_map (λ s. slice_set s k v) x) ≡ None
  nowhere_by None h = refl
  nowhere_by (Some s) h = set_nowhere s k v h

  -- and where there is none
  pub written_nowhere : scalar_in cells i k ≡ None → scalar_in (with_scalar cells i k v) i k ≡ None
  written_nowhere h = of_object k ∙ nowhere_by (slice_get cells i) h

  read_by : (u : A) (x : Option (List A)) → option_and_then (λ s. slice_get s k) (option_map (λ s. slice_set s k v) x) ≡ Some u → u ≡ v
  read_by u None h = absurd (cc)
  read_by u (Some s) h = set_read s k v u h

  pub written_read : (u : A) → scalar_in (with_scalar cells i k v) i k ≡ Some u → u ≡ v
  written_read u h = read_by u (slice_get cells i) (sym (of_object k) ∙ h)

  module _ (j l : ℕ) (other : i ≡ j → k ≡ l → ⊥) where
    beside_by : (i ≡ j) → (x : Option (List A)) → option_and_then (λ s. slice_get s l) (option_map (λ s. slice_set s k v) x) ≡ option_and_then (λ s. slice_get s l) x
    beside_by e None = refl
    beside_by e (Some s) = set_elsewhere s k l v (other e)

    elsewhere_by : (i ≡ j) ⊎ (i ≡ j → ⊥) → scalar_in (with_scalar cells i k v) j l ≡ scalar_in cells j l
    elsewhere_by (inl e) =
        ap (λ n. scalar_in (with_scalar cells i k v) n l) (sym e) ∙ of_object l ∙ beside_by e (slice_get cells i) ∙ ap (λ n. scalar_in cells n l) e
    elsewhere_by (inr h) = ap (option_and_then (λ s. slice_get s l)) (elsewhere cells i j k v h)

    -- any other one
    pub written_elsewhere : scalar_in (with_scalar cells i k v) j l ≡ scalar_in cells j l
    written_elsewhere = elsewhere_by (one_by i j (i == j) refl)
