-- Lists, at a place that they have.
use Rattle.std.proofs.Common.{arith, ◌≡◌, ◌<◌, ℕ, zero, suc, List, [], ◌∷◌, ◌++◌, length, take, drop, Some, slice_get, refl, ap}
use Rattle.std.proofs.lemmas.Option.{same_Some}

pub there : {A : Type 0} (xs : List A) (i : ℕ) → i < length xs → (x : A) × (slice_get xs i ≡ Some x)
there [] i l = absurd (omega (arith, l))
there (x ∷ xs) zero l = (x, refl)
there (x ∷ xs) (suc i) l = there xs i (omega (arith, l))

pub split_at : {A : Type 0} (xs : List A) (i : ℕ) (x : A) → slice_get xs i ≡ Some x → xs ≡ take i xs ++ x ∷ drop (suc i) xs
split_at [] i x e = absurd (cc)
split_at (y ∷ xs) zero x e = ap (λ z. z ∷ xs) (same_Some y x e)
split_at (y ∷ xs) (suc i) x e = ap (λ zs. y ∷ zs) (split_at xs i x e)

pub in_front : {A : Type 0} (xs : List A) (i n : ℕ) (x : A) → slice_get (take i xs) n ≡ Some x → (n < i) × (slice_get xs n ≡ Some x)
in_front xs zero n x e = absurd (cc)
in_front [] (suc i) n x e = absurd (cc)
in_front (y ∷ xs) (suc i) zero x e = (omega arith, e)
in_front (y ∷ xs) (suc i) (suc n) x e = let r = in_front xs i n x e in let l = r.0 in (omega (arith, l), r.1)
