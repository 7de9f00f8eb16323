-- Tables of places are the places, where all that stand in an order are below the bound.
use Rattle.std.proofs.Common.{◌≡◌, ◌∙◌, ◌<◌, ◌≤◌, ◌++◌, ◌⊎◌, ◌&&◌, inl, inr, ℕ, zero, suc, Bool, true, false, cond, List, [], ◌∷◌, length, Some, None, refl, ap, sym, arith, if◌then◌else◌}
use Rattle.std.specs.Prelude.{nat_eq, nat_le, nat_lt, slice_get, unwrap_or, fold, filter}
use Rattle.std.specs.List.{list_all, list_any}
use Rattle.std.proofs.lemmas.Bool.{ltb-true, cases_lt, ne_eqb}
use Rattle.std.proofs.lemmas.List.Folds.{list_all-append}
use Rattle.cc_names.specs.Names.{numbers_from}
use Rattle.cc_lower_numbers.specs.Order.{is_within, with_one, firsts, ordered, place_in}
use Rattle.cc_lower_numbers.specs.Renamed.{number_at}

abbrev AllBelow : ℕ → List ℕ → Type 0
AllBelow n order = list_all (λ i. nat_lt i n) order ≡ true

both_left : (a b : Bool) → (a && b) ≡ true → a ≡ true
both_left true b h = refl
both_left false b h = absurd (cc)

both_right : (a b : Bool) → (a && b) ≡ true → b ≡ true
both_right true b h = h
both_right false b h = absurd (cc)

both_are : (a b : Bool) → a ≡ true → b ≡ true → (a && b) ≡ true
both_are true b h k = k
both_are false b h k = absurd (cc)

-- ---- what is within bounds is below the end

filtered_below : (first n : ℕ) (xs : List ℕ) → AllBelow n (filter (is_within first n) xs)
filtered_below first n [] = refl
filtered_below first n (x ∷ xs) = by (nat_le first x) (nat_lt x n) refl (filtered_below first n xs)
  where
    by : (a b : Bool) → nat_lt x n ≡ b → AllBelow n (filter (is_within first n) xs) → AllBelow n (cond (a && b) (x ∷ filter (is_within first n) xs) (filter (is_within first n) xs))
    by true true e h = both_are (nat_lt x n) _ e h
    by true false e h = h
    by false b e h = h

one_below : (n : ℕ) (order : List ℕ) (x : ℕ) → AllBelow n order → nat_lt x n ≡ true → AllBelow n (with_one order x)
one_below n order x h k = by (list_any (nat_eq x) order)
  where
    by : (b : Bool) → AllBelow n (if b then order else order ++ x ∷ [])
    by true = h
    by false = list_all-append (λ i. nat_lt i n) order (x ∷ []) ∙ both_are _ _ h (both_are (nat_lt x n) true k refl)

all_below : (n : ℕ) (order xs : List ℕ) → AllBelow n order → AllBelow n xs → AllBelow n (fold with_one order xs)
all_below n order [] h k = h
all_below n order (x ∷ xs) h k = all_below n (with_one order x) xs (one_below n order x h (both_left (nat_lt x n) _ k)) (both_right (nat_lt x n) _ k)

pub ordered_below : (first n : ℕ) (text : List ℕ) → AllBelow n (ordered first n text)
unfolding firsts
ordered_below first n text = all_below n [] (filter (is_within first n) (text ++ numbers_from 0 n)) refl (filtered_below first n (text ++ numbers_from 0 n))

-- ---- tables

stays : (place : ℕ) (order : List ℕ) (n i : ℕ) → AllBelow n order → n ≤ i → place_in place order i ≡ i
stays place [] n i h k = refl
stays place (j ∷ js) n i h k =
    let low : j < n = ltb-true j n (both_left (nat_lt j n) _ h) in
    ap (λ b. if b then place else place_in (suc place) js i) (ne_eqb i j (λ e. omega (arith, e, low, k))) ∙ stays (suc place) js n i (both_right (nat_lt j n) _ h) k

past_end : (ps : List ℕ) (i : ℕ) → length ps ≤ i → slice_get ps i ≡ None
past_end [] i h = refl
past_end (p ∷ ps) zero h = absurd (omega (arith, h))
past_end (p ∷ ps) (suc i) h = past_end ps i (omega (arith, h))

pub table_is : (first : ℕ) (order ps : List ℕ) (n : ℕ) → AllBelow n order → length ps ≡ n → ((i : ℕ) → i < n → slice_get ps i ≡ Some (place_in first order i)) → number_at ps ≡ place_in first order
table_is first order ps n below len each = λ k i. by i (cases_lt i n) k
  where
    by : (i : ℕ) → (i < n) ⊎ (n ≤ i) → number_at ps i ≡ place_in first order i
    by i (inl h) = ap (λ o. unwrap_or o i) (each i h)
    by i (inr h) = ap (λ o. unwrap_or o i) (past_end ps i (omega (arith, len, h))) ∙ sym (stays first order n i below h)

pub ruleset of_tables = (table_is, ordered_below)
