-- The scalars of lists, once one of them is written.
use Rattle.std.proofs.Common.{◌≡◌, ◌⊎◌, inl, inr, ℕ, zero, suc, List, [], ◌∷◌, Option, Some, None, refl, ap, sym, ◌∙◌, slice_get, slice_set}
use Rattle.std.proofs.lemmas.Option.{same_Some}
use Rattle.std.specs.Prelude.{option_and_then}
use Rattle.cc_flow_sound.specs.CcCells.Cells.{scalar_in, set_scalar, with_scalar}
use Rattle.cc_flow_sound.proofs.CcSteps.CellsApart.{set_elsewhere}

slice_at : {A : Type 0} → (xs : List A) (k : ℕ) (x y : A) → slice_get (slice_set xs k x) k ≡ Some y → y ≡ x
slice_at [] k x y h = absurd (cc)
slice_at (z ∷ xs) zero x y h = sym (same_Some x y h)
slice_at (z ∷ xs) (suc k) x y h = slice_at xs k x y h

slice_written : {A : Type 0} → (xs : List A) (k q : ℕ) (x y : A) → slice_get (slice_set xs k x) q ≡ Some y → ((q ≡ k) × (y ≡ x)) ⊎ (slice_get xs q ≡ Some y)
slice_written [] k q x y h = inr h
slice_written (z ∷ xs) zero zero x y h = inl (refl, sym (same_Some x y h))
slice_written (z ∷ xs) zero (suc q) x y h = inr h
slice_written (z ∷ xs) (suc k) zero x y h = inr h
slice_written (z ∷ xs) (suc k) (suc q) x y h = further (slice_written xs k q x y h)
  where
    further : ((q ≡ k) × (y ≡ x)) ⊎ (slice_get xs q ≡ Some y) → ((suc q ≡ suc k) × (y ≡ x)) ⊎ (slice_get xs q ≡ Some y)
    further (inl e) = inl (ap suc e.0, e.1)
    further (inr e) = inr e

and_then_some : {A B : Type 0} → (f : A → Option B) (o : Option A) (y : B) → option_and_then f o ≡ Some y → (x : A) × (o ≡ Some x) × (f x ≡ Some y)
and_then_some f None y h = absurd (cc)
and_then_some f (Some x) y h = (x, refl, h)

module _ {A : Type 0} (cells : List (List A)) (i k : ℕ) (x : A) where
  abbrev Written : Option (List A) → ℕ → ℕ → A → Type 0
  Written old j q y = ((j ≡ i) × (q ≡ k) × (y ≡ x)) ⊎ (scalar_in cells j q ≡ Some y)

  inner : (j q : ℕ) (y : A) (old s : List A) → slice_get cells i ≡ Some old → ((j ≡ i) × (s ≡ slice_set old k x)) ⊎ (slice_get cells j ≡ Some s) → slice_get s q ≡ Some y → Written (Some old) j q y
  inner j q y old s e (inl h) g = either (slice_written old k q x y (ap (λ (l : List A). slice_get l q) (sym h.1) ∙ g))
    where
      either : ((q ≡ k) × (y ≡ x)) ⊎ (slice_get old q ≡ Some y) → ((j ≡ i) × (q ≡ k) × (y ≡ x)) ⊎ (scalar_in cells j q ≡ Some y)
      either (inl w) = inl (h.0, w.0, w.1)
      either (inr w) = inr (ap (option_and_then (λ (l : List A). slice_get l q)) (ap (slice_get cells) h.0 ∙ e) ∙ w)
  inner j q y old s e (inr h) g = inr (ap (option_and_then (λ (l : List A). slice_get l q)) h ∙ g)

  written_by : (j q : ℕ) (y : A) (old : Option (List A)) → slice_get cells i ≡ old → scalar_in (set_scalar cells i k x old) j q ≡ Some y → Written old j q y
  written_by j q y None e h = inr h
  written_by j q y (Some old) e h =
      let s = and_then_some (λ (l : List A). slice_get l q) (slice_get (slice_set cells i (slice_set old k x)) j) y h in
      inner j q y old s.0 e (slice_written cells i j (slice_set old k x) s.0 s.1) s.2

  -- a scalar is the one that was written, or was there before
  pub scalar_written : (j q : ℕ) (y : A) → scalar_in (with_scalar cells i k x) j q ≡ Some y → ((j ≡ i) × (q ≡ k) × (y ≡ x)) ⊎ (scalar_in cells j q ≡ Some y)
  scalar_written j q y h = written_by j q y (slice_get cells i) refl h

  at_by : (y : A) (old : Option (List A)) → slice_get cells i ≡ old → scalar_in (set_scalar cells i k x old) i k ≡ Some y → y ≡ x
  at_by y None e h = absurd (let g : scalar_in cells i k ≡ None = ap (option_and_then (λ (l : List A). slice_get l k)) e in cc)
  at_by y (Some old) e h =
      let s = and_then_some (λ (l : List A). slice_get l k) (slice_get (slice_set cells i (slice_set old k x)) i) y h in
      slice_at old k x y (ap (λ (l : List A). slice_get l k) (sym (slice_at cells i (slice_set old k x) s.0 s.1)) ∙ s.2)

  pub scalar_at : (y : A) → scalar_in (with_scalar cells i k x) i k ≡ Some y → y ≡ x
  scalar_at y h = at_by y (slice_get cells i) refl h

  kept_by : (j q : ℕ) (old : Option (List A)) → (i ≡ j → ⊥) → scalar_in (set_scalar cells i k x old) j q ≡ scalar_in cells j q
  kept_by j q None n = refl
  kept_by j q (Some old) n = ap (option_and_then (λ (l : List A). slice_get l q)) (set_elsewhere cells i j (slice_set old k x) n)

  -- another object keeps its scalars
  pub scalar_kept : (j q : ℕ) → (i ≡ j → ⊥) → scalar_in (with_scalar cells i k x) j q ≡ scalar_in cells j q
  scalar_kept j q n = kept_by j q (slice_get cells i) n
