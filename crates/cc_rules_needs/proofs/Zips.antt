-- Sets in order that are below others, place by place and by their positions.
use Rattle.std.proofs.Common.{arith, ◌≡◌, ℕ, zero, suc, ◌<◌, List, [], ◌∷◌, length, Option, Some, None, slice_get}
use Rattle.std.specs.List.{AllZip}

-- something is there and related, where there is something
abbrev pub AreSome : {A B : Type 0} → (A → B → Type 0) → Option A → Option B → Type 0
AreSome R None y = Unit {0}
AreSome R (Some x) None = ⊥
AreSome R (Some x) (Some y) = R x y

pub some_at : {A B : Type 0} (R : A → B → Type 0) (xs : List A) (ys : List B) → AllZip R xs ys → (n : ℕ) → AreSome R (slice_get xs n) (slice_get ys n)
some_at R [] ys h n = tt
some_at R (x ∷ xs) [] h n = absurd h
some_at R (x ∷ xs) (y ∷ ys) h zero = h.0
some_at R (x ∷ xs) (y ∷ ys) h (suc n) = some_at R xs ys h.1 n

pub zip_from : {A B : Type 0} (R : A → B → Type 0) (xs : List A) (ys : List B) → length xs ≡ length ys → ((n : ℕ) → n < length xs → AreSome R (slice_get xs n) (slice_get ys n)) → AllZip R xs ys
zip_from R [] [] e h = tt
zip_from R [] (y ∷ ys) e h = absurd (let f : zero ≡ suc (length ys) = e in omega (arith, f))
zip_from R (x ∷ xs) [] e h = absurd (let f : suc (length xs) ≡ zero = e in omega (arith, f))
zip_from R (x ∷ xs) (y ∷ ys) e h = (h zero (omega arith), zip_from R xs ys (let f : suc (length xs) ≡ suc (length ys) = e in omega (arith, f)) (λ n k. h (suc n) (omega (arith, k))))
