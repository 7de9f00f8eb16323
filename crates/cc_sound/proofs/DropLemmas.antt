-- What is left of a list behind its first elements.
use Rattle.std.proofs.Common.{arith, ◌≡◌, ◌≤◌, ◌+◌, ℕ, zero, suc, List, [], ◌∷◌, length, drop, refl, ap, Some, slice_get, add-one}

dropped_suc : {A : Type 0} → (xs : List A) (i : ℕ) (x : A) → slice_get xs i ≡ Some x → drop i xs ≡ x ∷ drop (suc i) xs
dropped_suc [] i x h = absurd (cc)
dropped_suc (y ∷ xs) zero x h = let e : y ≡ x = cc in ap (λ z. z ∷ xs) e
dropped_suc (y ∷ xs) (suc i) x h = dropped_suc xs i x h

pub dropped : {A : Type 0} → (xs : List A) (i : ℕ) (x : A) → slice_get xs i ≡ Some x → drop i xs ≡ x ∷ drop (i + 1) xs
dropped xs i x h = rw add-one (dropped_suc xs i x h)

pub drop_past : {A : Type 0} → (xs : List A) (i : ℕ) → length xs ≤ i → drop i xs ≡ []
drop_past [] zero h = refl
drop_past [] (suc i) h = refl
drop_past (x ∷ xs) zero h = absurd (omega (arith, h))
drop_past (x ∷ xs) (suc i) h = drop_past xs i (omega (arith, h))
