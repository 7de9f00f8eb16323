-- How many numbers at the front of a list are below one.
use Rattle.std.proofs.Common.{arith, ◌≡◌, ℕ, suc, ◌+◌, ◌<◌, ◌≤◌, Bool, true, false, cond, List, [], ◌∷◌, length, drop, get_or, ap, ◌∙◌}
use Rattle.std.specs.Prelude.{nat_lt}
use Rattle.std.proofs.lemmas.List.{at_drop_more, at_drop_all}
use Rattle.cc_rules_readers.specs.Points.{count_below}

below : (m k : ℕ) → m < k → nat_lt m k ≡ true
below m k l = grind (arith, l)

not_below : (m k : ℕ) → k ≤ m → nat_lt m k ≡ false
not_below m k l = grind (arith, l)

-- a loop that has come to an element: none of those before is as great
pub counted_on : (k : ℕ) (xs : List ℕ) (i : ℕ) → i < length xs → get_or xs i 0 < k → i + count_below k (drop i xs) ≡ count_below k xs → (i + 1) + count_below k (drop (i + 1) xs) ≡ count_below k xs
counted_on k xs i l low h =
    let step : count_below k (drop i xs) ≡ suc (count_below k (drop (i + 1) xs)) = at_drop_more (count_below k) xs i 0 l ∙ ap (λ b. cond b (suc (count_below k (drop (i + 1) xs))) 0) (below (get_or xs i 0) k low) in
    omega (arith, step, h)

pub counted_here : (k : ℕ) (xs : List ℕ) (i : ℕ) → i < length xs → k ≤ get_or xs i 0 → i + count_below k (drop i xs) ≡ count_below k xs → i ≡ count_below k xs
counted_here k xs i l high h =
    let stop : count_below k (drop i xs) ≡ 0 = at_drop_more (count_below k) xs i 0 l ∙ ap (λ b. cond b (suc (count_below k (drop (i + 1) xs))) 0) (not_below (get_or xs i 0) k high) in
    omega (arith, stop, h)

pub counted_all : (k : ℕ) (xs : List ℕ) (i : ℕ) → i ≡ length xs → i + count_below k (drop i xs) ≡ count_below k xs → length xs ≡ count_below k xs
counted_all k xs i past h =
    let stop : count_below k (drop i xs) ≡ 0 = at_drop_all (count_below k) xs i (omega (arith, past)) in
    omega (arith, stop, h, past)

within_by : (b : Bool) (n m : ℕ) → n ≤ m → cond b (suc n) 0 ≤ suc m
within_by true n m l = omega (arith, l)
within_by false n m l = omega arith

pub counted_within : (k : ℕ) (xs : List ℕ) → count_below k xs ≤ length xs
counted_within k [] = omega arith
counted_within k (x ∷ xs) = within_by (nat_lt x k) (count_below k xs) (length xs) (counted_within k xs)
