-- Orders that a loop makes, a number at a time.
use Rattle.std.proofs.Common.{◌≡◌, ◌∙◌, ◌<◌, ◌≤◌, ◌+◌, ◌⊎◌, inl, inr, ℕ, zero, suc, Bool, true, false, cond, List, [], ◌∷◌, ◌++◌, length, get_or, take, refl, ap, sym, subst, arith, set, append_assoc, replicate, if◌then◌else◌}
use Rattle.std.specs.Prelude.{◌≢◌, nat_eq, nat_lt, nat_le, ◌&&◌, ◌||◌, filter, fold}
use Rattle.std.specs.List.{list_any}
use Rattle.std.proofs.lemmas.Bool.Decides.{eqb_tells}
use Rattle.std.proofs.lemmas.List.{get_or-set_same, get_or-set_other, length-set, append-nil, take_more, replicate_more}
use Rattle.std.proofs.lemmas.List.Folds.{list_any-append}
use Rattle.std.proofs.lemmas.Grind.{fold-append}
use Rattle.std.proofs.lemmas.List.Elements.{filter-append}
use Rattle.std.proofs.lemmas.Bool.{le-leb, lt-ltb, lt-leb, le-ltb}
use Rattle.cc_names.specs.Names.{numbers_from}
use Rattle.cc_lower_numbers.specs.Order.{is_within, with_one, firsts, AreSeen}

-- ---- one number

any-push : (k i : ℕ) (order : List ℕ) → list_any (nat_eq k) (order ++ i ∷ []) ≡ (list_any (nat_eq k) order || nat_eq k i)
any-push k i order = list_any-append (nat_eq k) order (i ∷ []) ∙ ap (λ b. list_any (nat_eq k) order || b) (or-false (nat_eq k i))
  where
    or-false : (b : Bool) → (b || false) ≡ b
    or-false true = refl
    or-false false = refl

seen-at : (seen : List Bool) (order : List ℕ) (i k : ℕ) → k < length seen → get_or seen k false ≡ list_any (nat_eq k) order → get_or (set seen i true) k false ≡ (list_any (nat_eq k) order || nat_eq k i)
seen-at seen order i k h e = by (eqb_tells k i)
  where
    or-true : (b : Bool) → true ≡ (b || true)
    or-true true = refl
    or-true false = refl

    or-false : (b : Bool) → b ≡ (b || false)
    or-false true = refl
    or-false false = refl

    by : ((nat_eq k i ≡ true) × (k ≡ i)) ⊎ ((nat_eq k i ≡ false) × (k ≢ i)) → get_or (set seen i true) k false ≡ (list_any (nat_eq k) order || nat_eq k i)
    by (inl (t, same)) =
        ap (λ j. get_or (set seen j true) k false) (sym same) ∙ get_or-set_same seen k true false h ∙ or-true (list_any (nat_eq k) order) ∙ ap (λ b. list_any (nat_eq k) order || b) (sym t)
    by (inr (f, apart)) = get_or-set_other seen i k true false apart ∙ e ∙ or-false (list_any (nat_eq k) order) ∙ ap (λ b. list_any (nat_eq k) order || b) (sym f)

pub seen-put : (seen : List Bool) (order : List ℕ) (i : ℕ) → AreSeen seen order → AreSeen (set seen i true) (order ++ i ∷ [])
seen-put seen order i h k below =
    let inside : k < length seen = omega (arith, length-set seen i true) in
    seen-at seen order i k inside (h k inside) ∙ sym (any-push k i order)

by_tests : (a b c : Bool) (i : ℕ) (order : List ℕ) → a ≡ true → b ≡ true → list_any (nat_eq i) order ≡ c → (if c then order else order ++ i ∷ []) ≡ fold with_one order (cond (a && b) (i ∷ []) [])
by_tests true true c i order h k e = ap (λ x. if x then order else order ++ i ∷ []) (sym e)
by_tests true false c i order h k e = absurd (cc)
by_tests false b c i order h k e = absurd (cc)

pub put-new : (first i : ℕ) (seen : List Bool) (order : List ℕ) → AreSeen seen order → first ≤ i → i < length seen → get_or seen i false ≡ false →
    order ++ i ∷ [] ≡ fold with_one order (filter (is_within first (length seen)) (i ∷ []))
put-new first i seen order h low high new = by_tests (nat_le first i) (nat_lt i (length seen)) false i order (le-leb first i low) (lt-ltb i (length seen) high) (sym (h i high) ∙ new)

pub put-seen : (first i : ℕ) (seen : List Bool) (order : List ℕ) → AreSeen seen order → first ≤ i → i < length seen → get_or seen i false ≡ true →
    order ≡ fold with_one order (filter (is_within first (length seen)) (i ∷ []))
put-seen first i seen order h low high old = by_tests (nat_le first i) (nat_lt i (length seen)) true i order (le-leb first i low) (lt-ltb i (length seen) high) (sym (h i high) ∙ old)

both_no : (a b : Bool) (i : ℕ) (order : List ℕ) → b ≡ false → order ≡ fold with_one order (cond (a && b) (i ∷ []) [])
both_no true true i order h = absurd (cc)
both_no true false i order h = refl
both_no false b i order h = refl

first_no : (a b : Bool) (i : ℕ) (order : List ℕ) → a ≡ false → order ≡ fold with_one order (cond (a && b) (i ∷ []) [])
first_no true b i order h = absurd (cc)
first_no false b i order h = refl

pub put-high : (first i : ℕ) (seen : List Bool) (order : List ℕ) → length seen ≤ i → order ≡ fold with_one order (filter (is_within first (length seen)) (i ∷ []))
put-high first i seen order h = both_no (nat_le first i) (nat_lt i (length seen)) i order (le-ltb i (length seen) h)

pub put-low : (first i : ℕ) (seen : List Bool) (order : List ℕ) → i < first → order ≡ fold with_one order (filter (is_within first (length seen)) (i ∷ []))
put-low first i seen order h = first_no (nat_le first i) (nat_lt i (length seen)) i order (lt-leb first i h)

pub none_seen : (n i : ℕ) → get_or (replicate n false) i false ≡ false
none_seen zero i = refl
none_seen (suc n) zero = refl
none_seen (suc n) (suc i) = none_seen n i

pub put-outside : (first i end : ℕ) (order : List ℕ) → is_within first end i ≡ false → order ≡ fold with_one order (filter (is_within first end) (i ∷ []))
put-outside first i end order h = rw h refl

pub ruleset of_seen = (put-new, length-set)

pub numbers-more : (k n : ℕ) → numbers_from k (suc n) ≡ numbers_from k n ++ (k + n) ∷ []
numbers-more k zero = let e : k ≡ k + 0 = omega arith in ap (λ j. j ∷ []) e
numbers-more k (suc n) = let e : suc k + n ≡ k + suc n = omega arith in ap (λ l. k ∷ l) (numbers-more (suc k) n) ∙ ap (λ j. k ∷ (numbers_from (suc k) n ++ j ∷ [])) e

pub numbers_below-more : (n : ℕ) → numbers_from 0 (n + 1) ≡ numbers_from 0 n ++ n ∷ []
numbers_below-more n =
    let e : n + 1 ≡ suc n = omega arith in
    let z : 0 + n ≡ n = omega arith in
    ap (numbers_from 0) e ∙ numbers-more 0 n ∙ ap (λ k. numbers_from 0 n ++ k ∷ []) z

pub ruleset of_numbers = (numbers_below-more, append-nil, append_assoc)

pub firsts-more : (test : ℕ → Bool) (xs : List ℕ) (i d : ℕ) → i < length xs →
    firsts (filter test (take (i + 1) xs)) ≡ fold with_one (firsts (filter test (take i xs))) (filter test (get_or xs i d ∷ []))
unfolding firsts
firsts-more test xs i d h =
    ap (λ l. fold with_one [] (filter test l)) (take_more xs i d h)
    ∙ ap (fold with_one []) (filter-append test (take i xs) (get_or xs i d ∷ []))
    ∙ fold-append with_one [] (filter test (take i xs)) (filter test (get_or xs i d ∷ []))

pub firsts-none : firsts [] ≡ []
unfolding firsts
firsts-none = refl

pub ruleset of_order = (firsts-more, firsts-none)

pub marks_more : (n : ℕ) (b : Bool) → replicate (n + 1) b ≡ replicate n b ++ b ∷ []
marks_more n b = sym (replicate_more n b)

pub ruleset of_marks = (marks_more)
