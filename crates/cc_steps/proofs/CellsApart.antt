-- What a write of a scalar changes: its own, and nothing else; writes to different objects do not meet.
use Rattle.std.proofs.Common.{◌≡◌, ◌∙◌, ◌∷◌, ℕ, zero, suc, List, [], Option, Some, None, option_map, slice_get, slice_set, refl, ap, sym}
use Rattle.cc_cells.specs.Cells.{set_scalar, with_scalar}

-- in one object

pub set_here : {A : Type 0} → (xs : List A) (k : ℕ) (v x : A) → slice_get xs k ≡ Some x → slice_get (slice_set xs k v) k ≡ Some v
set_here [] k v x h = absurd (cc)
set_here (y ∷ xs) zero v x h = refl
set_here (y ∷ xs) (suc k) v x h = set_here xs k v x h

pub set_elsewhere : {A : Type 0} → (xs : List A) (k j : ℕ) (v : A) → (k ≡ j → ⊥) → slice_get (slice_set xs k v) j ≡ slice_get xs j
set_elsewhere [] k j v h = refl
set_elsewhere (y ∷ xs) zero zero v h = absurd (h refl)
set_elsewhere (y ∷ xs) zero (suc j) v h = refl
set_elsewhere (y ∷ xs) (suc k) zero v h = refl
set_elsewhere (y ∷ xs) (suc k) (suc j) v h = set_elsewhere xs k j v (λ e. h (ap suc e))

-- among objects

module _ {A : Type 0} where
  further : (s : List A) (c : List (List A)) (o p : ℕ) (v : A) → with_scalar (s ∷ c) (suc o) p v ≡ s ∷ with_scalar c o p v
  further s c o p v = by_get (slice_get c o)
    where
      by_get : (x : Option (List A)) → set_scalar (s ∷ c) (suc o) p v x ≡ s ∷ set_scalar c o p v x
      by_get None = refl
      by_get (Some x) = refl

  pub elsewhere : (c : List (List A)) (o k p : ℕ) (v : A) → (o ≡ k → ⊥) → slice_get (with_scalar c o p v) k ≡ slice_get c k
  elsewhere [] o k p v h = refl
  elsewhere (s ∷ c) zero zero p v h = absurd (h refl)
  elsewhere (s ∷ c) zero (suc k) p v h = refl
  elsewhere (s ∷ c) (suc o) zero p v h = ap (λ (x : List (List A)). slice_get x zero) (further s c o p v)
  elsewhere (s ∷ c) (suc o) (suc k) p v h = ap (λ (x : List (List A)). slice_get x (suc k)) (further s c o p v) ∙ elsewhere c o k p v (λ e. h (ap suc e))

  pub written_here : (c : List (List A)) (o p : ℕ) (v : A) → slice_get (with_scalar c o p v) o ≡ option_map (λ s. slice_set s p v) (slice_get c o)
  written_here [] o p v = refl
  written_here (s ∷ c) zero p v = refl
  written_here (s ∷ c) (suc o) p v = ap (λ (x : List (List A)). slice_get x (suc o)) (further s c o p v) ∙ written_here c o p v

  pub apart : (c : List (List A)) (o k p i : ℕ) (v w : A) → (o ≡ k → ⊥) → with_scalar (with_scalar c o p v) k i w ≡ with_scalar (with_scalar c k i w) o p v
  apart [] o k p i v w h = refl
  apart (s ∷ c) zero zero p i v w h = absurd (h refl)
  apart (s ∷ c) zero (suc k) p i v w h = further (slice_set s p v) c k i w ∙ sym (ap (λ (x : List (List A)). with_scalar x zero p v) (further s c k i w))
  apart (s ∷ c) (suc o) zero p i v w h = ap (λ (x : List (List A)). with_scalar x zero i w) (further s c o p v) ∙ sym (further (slice_set s i w) c o p v)
  apart (s ∷ c) (suc o) (suc k) p i v w h =
      ap (λ (x : List (List A)). with_scalar x (suc k) i w) (further s c o p v) ∙ further s (with_scalar c o p v) k i w ∙ ap (λ (x : List (List A)). s ∷ x) (apart c o k p i v w (λ e. h (ap suc e)))
      ∙ sym (further s (with_scalar c k i w) o p v) ∙ sym (ap (λ (x : List (List A)). with_scalar x (suc o) p v) (further s c k i w))
