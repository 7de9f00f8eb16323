-- The table of places, one more at a time.
use Rattle.std.proofs.Common.{◌≡◌, ◌∙◌, ◌+◌, ◌<◌, ◌≤◌, ◌++◌, ◌⊎◌, inl, inr, ℕ, zero, suc, Bool, true, false, cond, not, List, [], ◌∷◌, length, Option, Some, None, refl, ap, sym, arith, length-append, if◌then◌else◌}
use Rattle.std.specs.Prelude.{nat_eq, nat_lt, position, slice_get, slice_index_or, unwrap_or}
use Rattle.std.specs.List.{position_or_len}
use Rattle.std.proofs.lemmas.Bool.{cases_lt, lt-ltb, le-ltb}
use Rattle.cc_lower_numbers.specs.Order.{place_in, place_or}

shifted : (first i n : ℕ) (c : Bool) → place_or first i (cond c (Some (suc n)) None) ≡ place_or (suc first) i (cond c (Some n) None)
shifted first i n true = omega arith
shifted first i n false = refl

further_on : (n l : ℕ) → nat_lt (suc n) (suc l) ≡ nat_lt n l
further_on n l = by (cases_lt n l)
  where
    by : (n < l) ⊎ (l ≤ n) → nat_lt (suc n) (suc l) ≡ nat_lt n l
    by (inl h) = lt-ltb (suc n) (suc l) (omega (arith, h)) ∙ sym (lt-ltb n l h)
    by (inr h) = le-ltb (suc n) (suc l) (omega (arith, h)) ∙ sym (le-ltb n l h)

told_by : (b : Bool) (first i n l : ℕ) → place_or first i (cond (nat_lt (cond (not b) (1 + n) 0) (suc l)) (Some (cond (not b) (1 + n) 0)) None) ≡ (if b then first else place_or (suc first) i (cond (nat_lt n l) (Some n) None))
told_by true first i n l =
    let below : 0 < suc l = omega arith in
    let here : first + 0 ≡ first = omega arith in ap (λ b. place_or first i (cond b (Some 0) None)) (lt-ltb 0 (suc l) below) ∙ here
told_by false first i n l =
    let e : 1 + n ≡ suc n = omega arith in ap (λ k. place_or first i (cond (nat_lt k (suc l)) (Some k) None)) e ∙ ap (λ b. place_or first i (cond b (Some (suc n)) None)) (further_on n l) ∙ shifted first i n (nat_lt n l)

-- what a table has at a number
pub got_is : (xs : List (Option ℕ)) (n : ℕ) → unwrap_or (slice_get xs n) None ≡ slice_index_or xs n None
got_is [] n = refl
got_is (x ∷ xs) zero = refl
got_is (x ∷ xs) (suc n) = got_is xs n

-- the place that the first position tells
pub place_told : (first : ℕ) (js : List ℕ) (i : ℕ) → place_or first i (position (nat_eq i) js) ≡ place_in first js i
place_told first [] i = refl
place_told first (j ∷ js) i = told_by (nat_eq i j) first i (position_or_len (nat_eq i) js) (length js) ∙ ap (λ x. if nat_eq i j then first else x) (place_told (suc first) js i)

pub places_length : (ps : List ℕ) (x n : ℕ) → length ps ≡ n → length (ps ++ x ∷ []) ≡ n + 1
places_length ps x n h = length-append ps (x ∷ []) ∙ ap (λ k. k + 1) h

got_before : (ps : List ℕ) (x i : ℕ) → i < length ps → slice_get (ps ++ x ∷ []) i ≡ slice_get ps i
got_before [] x i h = absurd (omega (arith, h))
got_before (p ∷ ps) x zero h = refl
got_before (p ∷ ps) x (suc i) h = got_before ps x i (omega (arith, h))

got_last : (ps : List ℕ) (x i : ℕ) → i ≡ length ps → slice_get (ps ++ x ∷ []) i ≡ Some x
got_last [] x zero h = refl
got_last [] x (suc i) h = absurd (omega (arith, h))
got_last (p ∷ ps) x zero h = absurd (omega (arith, h))
got_last (p ∷ ps) x (suc i) h = got_last ps x i (omega (arith, h))

before_or_at : (i n : ℕ) → i < n + 1 → (i < n) ⊎ (i ≡ n)
before_or_at zero zero h = inr refl
before_or_at zero (suc n) h = inl (omega arith)
before_or_at (suc i) zero h = absurd (omega (arith, h))
before_or_at (suc i) (suc n) h = by (before_or_at i n (omega (arith, h)))
  where
    by : (i < n) ⊎ (i ≡ n) → (suc i < suc n) ⊎ (suc i ≡ suc n)
    by (inl k) = inl (omega (arith, k))
    by (inr k) = inr (ap suc k)

pub places_more : (first : ℕ) (order ps qs : List ℕ) (n : ℕ) → length ps ≡ n → qs ≡ ps ++ place_in first order n ∷ [] → ((i : ℕ) → i < n → slice_get ps i ≡ Some (place_in first order i)) →
    (i : ℕ) → i < n + 1 → slice_get qs i ≡ Some (place_in first order i)
places_more first order ps qs n len all each i h = ap (λ l. slice_get l i) all ∙ by (before_or_at i n h)
  where
    by : (i < n) ⊎ (i ≡ n) → slice_get (ps ++ place_in first order n ∷ []) i ≡ Some (place_in first order i)
    by (inl k) = got_before ps (place_in first order n) i (omega (arith, len, k)) ∙ each i k
    by (inr k) = got_last ps (place_in first order n) i (k ∙ sym len) ∙ ap (λ j. Some (place_in first order j)) (sym k)

pub ruleset of_places = (places_more, places_length)
