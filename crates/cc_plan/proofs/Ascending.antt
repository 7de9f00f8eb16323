-- Ascending numbers below a bound are no more than the bound.
use Rattle.std.proofs.Common.{◌≤◌, ◌<◌, ◌+◌, ℕ, zero, suc, List, length, get_or, refl, ◌≡◌, arith}
use Rattle.std.specs.List.{AllPairs}

-- the number at a place is no less than the place
no_lower : (xs : List ℕ) → AllPairs (λ m n. m < n) xs → (k : ℕ) → k < length xs → k ≤ get_or xs k 0
no_lower xs up zero h = omega arith
no_lower xs up (suc k) h =
    let before = no_lower xs up k (omega (arith, h)) in
    let next = up k (suc k) 0 (omega arith) h in
    omega (arith, before, next)

last : (xs : List ℕ) (most k : ℕ) → AllPairs (λ m n. m < n) xs → ((i : ℕ) → i < length xs → get_or xs i 0 < most) → length xs ≡ suc k → length xs ≤ most
last xs most k up below e = let a = no_lower xs up k (omega (arith, e)) in let b = below k (omega (arith, e)) in omega (arith, a, b, e)

pub few_ascending : (xs : List ℕ) (most : ℕ) → AllPairs (λ m n. m < n) xs → ((i : ℕ) → i < length xs → get_or xs i 0 < most) → length xs ≤ most
few_ascending xs most up below = by_length (length xs) refl
  where
    by_length : (n : ℕ) → length xs ≡ n → length xs ≤ most
    by_length zero e = omega (arith, e)
    by_length (suc k) e = last xs most k up below e
