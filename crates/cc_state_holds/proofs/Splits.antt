-- A list at one of its elements: what stands in front of it, and behind.
use Rattle.std.proofs.Common.{◌≡◌, ℕ, zero, suc, List, [], ◌∷◌, ◌++◌, length, take, Some, slice_get, refl, ap}
use Rattle.std.proofs.lemmas.Option.{same_Some, none-some}

pub at_middle : {A : Type 0} (front back : List A) (x : A) → slice_get (front ++ x ∷ back) (length front) ≡ Some x
at_middle [] back x = refl
at_middle (y ∷ front) back x = at_middle front back x

pub in_front : {A : Type 0} (front back : List A) → take (length front) (front ++ back) ≡ front
in_front [] back = refl
in_front (y ∷ front) back = ap (λ xs. y ∷ xs) (in_front front back)

pub splits : {A : Type 0} (xs : List A) (k : ℕ) (x : A) → slice_get xs k ≡ Some x → (back : List A) × (xs ≡ take k xs ++ x ∷ back)
splits [] k x h = absurd (none-some x h)
splits (y ∷ xs) zero x h = (xs, ap (λ z. z ∷ xs) (same_Some y x h))
splits (y ∷ xs) (suc k) x h = let w = splits xs k x h in (w.0, ap (λ zs. y ∷ zs) w.1)
