-- Orders of numbers: each number of a range stands in one once, and what is arranged in one stands where it says.
use Rattle.std.proofs.Common.{◌≡◌, ◌≢◌, ◌∙◌, ◌<◌, ◌≤◌, ◌+◌, ◌-◌, ◌⊎◌, inl, inr, ℕ, zero, suc, Bool, true, false, List, [], ◌∷◌, ◌++◌, length, Option, Some, None, slice_get, refl, ap, sym, subst, arith, if◌then◌else◌}
use Rattle.std.specs.Prelude.{nat_eq, nat_lt, nat_le, not, ◌&&◌, ◌||◌, filter, fold, option_to_list}
use Rattle.std.specs.List.{list_any, list_all}
use Rattle.std.proofs.lemmas.Bool.{true≢false, and_parts, and_from, and_right, or_parts, or_from, or_left, or_right, not-true, not_from_false, eq-eqb, ne_eqb, eqb-false, leb-true, ltb-true, le-leb, lt-ltb, cases_Bool}
use Rattle.std.proofs.lemmas.Bool.Decides.{eqb_tells}
use Rattle.std.proofs.lemmas.List.Folds.{list_any-append}
use Rattle.std.proofs.lemmas.Option.{same_Some, slice_get_past}
use Rattle.cc_names.specs.Names.{numbers_from}
use Rattle.cc_lower_numbers.specs.Order.{with_one, firsts, is_within, ordered, place_in, arranged}

abbrev pub has : ℕ → List ℕ → Bool
has k order = list_any (nat_eq k) order

-- no number stands twice
abbrev pub once : List ℕ → Bool
once [] = true
once (j ∷ js) = not (has j js) && once js

or-none : (b : Bool) → b ≡ (b || false)
or-none true = refl
or-none false = refl

regroup : (a b c : Bool) → ((a || (b || false)) || c) ≡ (a || (b || c))
regroup true b c = refl
regroup false true c = refl
regroup false false c = refl

pub has-append : (k : ℕ) (xs ys : List ℕ) → has k (xs ++ ys) ≡ (has k xs || has k ys)
has-append k xs ys = list_any-append (nat_eq k) xs ys

flipped : (i j : ℕ) → nat_eq i j ≡ false → nat_eq j i ≡ false
flipped i j h = ne_eqb j i (λ e. eqb-false i j h (sym e))

-- ---- the first of each number

there-already : (k i : ℕ) (xs : List ℕ) → has i xs ≡ true → has k xs ≡ (has k xs || (nat_eq k i || false))
there-already k i xs h = by (eqb_tells k i)
  where
    by_true : (a b : Bool) → a ≡ true → a ≡ (a || b)
    by_true true b h = refl
    by_true false b h = absurd (true≢false (sym h))

    by : ((nat_eq k i ≡ true) × (k ≡ i)) ⊎ ((nat_eq k i ≡ false) × (k ≢ i)) → has k xs ≡ (has k xs || (nat_eq k i || false))
    by (inl (t, e)) = by_true (has k xs) (nat_eq k i || false) (ap (λ (n : ℕ). has n xs) e ∙ h)
    by (inr (f, n)) = or-none (has k xs) ∙ ap (λ (b : Bool). has k xs || (b || false)) (sym f)

has-one : (k i : ℕ) (xs : List ℕ) → has k (with_one xs i) ≡ (has k xs || (nat_eq k i || false))
has-one k i xs = by (has i xs) refl
  where
    by : (b : Bool) → has i xs ≡ b → has k (if b then xs else xs ++ i ∷ []) ≡ (has k xs || (nat_eq k i || false))
    by true e = there-already k i xs e
    by false e = has-append k xs (i ∷ [])

pub has-fold : (k : ℕ) (before xs : List ℕ) → has k (fold with_one before xs) ≡ (has k before || has k xs)
has-fold k before [] = or-none (has k before)
has-fold k before (x ∷ xs) = has-fold k (with_one before x) xs ∙ ap (λ (b : Bool). b || has k xs) (has-one k x before) ∙ regroup (has k before) (nat_eq k x) (has k xs)

once-push : (xs : List ℕ) (i : ℕ) → once xs ≡ true → has i xs ≡ false → once (xs ++ i ∷ []) ≡ true
once-push [] i d h = refl
once-push (x ∷ xs) i d h =
    let p = and_parts (not (has x xs)) (once xs) d in
    let q = or_parts (nat_eq i x) (has i xs) h in
    and_from (not (has x (xs ++ i ∷ []))) (once (xs ++ i ∷ []))
    (not_from_false (has x (xs ++ i ∷ [])) (has-append x xs (i ∷ []) ∙ or_from (has x xs) (nat_eq x i || false) (not-true (has x xs) p.0) (or_from (nat_eq x i) false (flipped i x q.0) refl)))
    (once-push xs i p.1 q.1)

once-one : (xs : List ℕ) (i : ℕ) → once xs ≡ true → once (with_one xs i) ≡ true
once-one xs i h = by (has i xs) refl
  where
    by : (b : Bool) → has i xs ≡ b → once (if b then xs else xs ++ i ∷ []) ≡ true
    by true e = h
    by false e = once-push xs i h e

once-fold : (before xs : List ℕ) → once before ≡ true → once (fold with_one before xs) ≡ true
once-fold before [] h = h
once-fold before (x ∷ xs) h = once-fold (with_one before x) xs (once-one before x h)

-- ---- the numbers that pass

module _ (test : ℕ → Bool) where
  kept : (t n h : Bool) → (n ≡ true → t ≡ true) → (n || (t && h)) ≡ (t && (n || h))
  kept true true h f = refl
  kept true false h f = refl
  kept false true h f = absurd (true≢false (sym (f refl)))
  kept false false h f = refl

  dropped : (t n h : Bool) → (n ≡ true → t ≡ false) → (t && h) ≡ (t && (n || h))
  dropped true true h f = absurd (true≢false (f refl))
  dropped true false h f = refl
  dropped false n h f = refl

  same-test : (k x : ℕ) (b : Bool) → test x ≡ b → nat_eq k x ≡ true → test k ≡ b
  same-test k x b e t = by (eqb_tells k x)
    where
      by : ((nat_eq k x ≡ true) × (k ≡ x)) ⊎ ((nat_eq k x ≡ false) × (k ≢ x)) → test k ≡ b
      by (inl (h, i)) = ap test i ∙ e
      by (inr (f, n)) = absurd (true≢false (sym t ∙ f))

  pub has-filter : (k : ℕ) (xs : List ℕ) → has k (filter test xs) ≡ (test k && has k xs)
  has-filter k [] = none (test k)
    where
      none : (b : Bool) → false ≡ (b && false)
      none true = refl
      none false = refl
  has-filter k (x ∷ xs) = by (has-filter k xs) (test x) refl
    where
      by : has k (filter test xs) ≡ (test k && has k xs) → (b : Bool) → test x ≡ b → has k (if b then x ∷ filter test xs else filter test xs) ≡ (test k && (nat_eq k x || has k xs))
      by rest true e = ap (λ (b : Bool). nat_eq k x || b) rest ∙ kept (test k) (nat_eq k x) (has k xs) (same-test k x true e)
      by rest false e = rest ∙ dropped (test k) (nat_eq k x) (has k xs) (same-test k x false e)

  once-filter : (xs : List ℕ) → once xs ≡ true → once (filter test xs) ≡ true
  once-filter [] h = refl
  once-filter (x ∷ xs) h = by (once-filter xs (and_parts (not (has x xs)) (once xs) h).1) (test x)
    where
      by : once (filter test xs) ≡ true → (b : Bool) → once (if b then x ∷ filter test xs else filter test xs) ≡ true
      by rest true =
          let p = and_parts (not (has x xs)) (once xs) h in
          and_from (not (has x (filter test xs))) (once (filter test xs)) (not_from_false (has x (filter test xs)) (has-filter x xs ∙ and_right (test x) (has x xs) (not-true (has x xs) p.0))) rest
      by rest false = rest

pub has-numbers : (a n k : ℕ) → a ≤ k → k < a + n → has k (numbers_from a n) ≡ true
has-numbers a zero k l h = absurd (omega arith)
has-numbers a (suc n) k l h = by (λ m. has-numbers (suc a) n k m (omega arith)) (eqb_tells k a)
  where
    by : (suc a ≤ k → has k (numbers_from (suc a) n) ≡ true) → ((nat_eq k a ≡ true) × (k ≡ a)) ⊎ ((nat_eq k a ≡ false) × (k ≢ a)) → (nat_eq k a || has k (numbers_from (suc a) n)) ≡ true
    by rest (inl (t, e)) = or_left (nat_eq k a) (has k (numbers_from (suc a) n)) t
    by rest (inr (f, ne)) = or_right (nat_eq k a) (has k (numbers_from (suc a) n)) (rest (omega (arith, ne)))

-- ---- an order

pub ordered-has : (first end : ℕ) (text : List ℕ) (k : ℕ) → first ≤ k → k < end → has k (ordered first end text) ≡ true
unfolding firsts
ordered-has first end text k l h =
    has-fold k [] (filter (is_within first end) (text ++ numbers_from 0 end))
    ∙ has-filter (is_within first end) k (text ++ numbers_from 0 end)
    ∙ and_from (is_within first end k) (has k (text ++ numbers_from 0 end)) (and_from (nat_le first k) (nat_lt k end) (le-leb first k l) (lt-ltb k end h))
    (has-append k text (numbers_from 0 end) ∙ or_right (has k text) (has k (numbers_from 0 end)) (has-numbers 0 end k (omega arith) (omega arith)))

pub ordered-within : (first end : ℕ) (text : List ℕ) (k : ℕ) → has k (ordered first end text) ≡ true → (first ≤ k) × (k < end)
unfolding firsts
ordered-within first end text k h =
    let all : List ℕ = text ++ numbers_from 0 end in
    let p = and_parts (is_within first end k) (has k all) (sym (has-filter (is_within first end) k all) ∙ sym (has-fold k [] (filter (is_within first end) all)) ∙ h) in
    let q = and_parts (nat_le first k) (nat_lt k end) p.0 in (leb-true first k q.0, ltb-true k end q.1)

pub ordered-once : (first end : ℕ) (text : List ℕ) → once (ordered first end text) ≡ true
unfolding firsts
ordered-once first end text = once-fold [] (filter (is_within first end) (text ++ numbers_from 0 end)) refl

-- ---- how many numbers it has

abbrev is_other : ℕ → ℕ → Bool
is_other a x = not (nat_eq a x)

all-kept : (a : ℕ) (js : List ℕ) → has a js ≡ false → length js ≤ length (filter (is_other a) js)
all-kept a [] h = omega arith
all-kept a (j ∷ js) h = let q = or_parts (nat_eq a j) (has a js) h in by (all-kept a js q.1) (nat_eq a j) q.0
  where
    by : length js ≤ length (filter (is_other a) js) → (b : Bool) → b ≡ false → suc (length js) ≤ length (if not b then j ∷ filter (is_other a) js else filter (is_other a) js)
    by rest true e = absurd (true≢false e)
    by rest false e = omega (arith, rest)

one-dropped : (a : ℕ) (js : List ℕ) → once js ≡ true → length js ≤ suc (length (filter (is_other a) js))
one-dropped a [] h = omega arith
one-dropped a (j ∷ js) h = by (one-dropped a js (and_parts (not (has j js)) (once js) h).1) (eqb_tells a j)
  where
    p : (not (has j js) ≡ true) × (once js ≡ true)
    p = and_parts (not (has j js)) (once js) h

    at : (b : Bool) → nat_eq a j ≡ b → suc (length js) ≤ suc (length (if not b then j ∷ filter (is_other a) js else filter (is_other a) js)) → suc (length js) ≤ suc (length (filter (is_other a) (j ∷ js)))
    at b e l = subst (λ (c : Bool). suc (length js) ≤ suc (length (if not c then j ∷ filter (is_other a) js else filter (is_other a) js))) (sym e) l

    by : length js ≤ suc (length (filter (is_other a) js)) → ((nat_eq a j ≡ true) × (a ≡ j)) ⊎ ((nat_eq a j ≡ false) × (a ≢ j)) → suc (length js) ≤ suc (length (filter (is_other a) (j ∷ js)))
    by rest (inl (t, e)) = at true t (let k = all-kept a js (ap (λ (n : ℕ). has n js) e ∙ not-true (has j js) p.0) in omega (arith, k))
    by rest (inr (f, n)) = at false f (omega (arith, rest))

few : (n a : ℕ) (js : List ℕ) → once js ≡ true → ((k : ℕ) → has k js ≡ true → (a ≤ k) × (k < a + n)) → length js ≤ n
few zero a [] h w = omega arith
few zero a (j ∷ js) h w = let q = w j (or_left (nat_eq j j) (has j js) (eq-eqb j j refl)) in absurd (omega (arith, q.0, q.1))
few (suc n) a js h w =
    let l = one-dropped a js h in
    let m = few n (suc a) (filter (is_other a) js) (once-filter (is_other a) js h) within in
    omega (arith, l, m)
  where
    above : (k : ℕ) → a ≤ k → (b : Bool) → nat_eq a k ≡ b → not b ≡ true → suc a ≤ k
    above k l true e t = absurd (true≢false (sym t))
    above k l false e t = let n : a ≡ k → ⊥ = eqb-false a k e in omega (arith, n)

    within : (k : ℕ) → has k (filter (is_other a) js) ≡ true → (suc a ≤ k) × (k < suc a + n)
    within k i =
        let p = and_parts (is_other a k) (has k js) (sym (has-filter (is_other a) k js) ∙ i) in
        let q = w k p.1 in (above k q.0 (nat_eq a k) refl p.0, omega (arith, q.1))

pub ordered-few : (first end : ℕ) (text : List ℕ) → first ≤ end → length (ordered first end text) ≤ end - first
ordered-few first end text l =
    few (end - first) first (ordered first end text) (ordered-once first end text)
    (λ k h. let q = ordered-within first end text k h in (q.0, omega (arith, q.1)))

-- ---- where a number stands

pub record Stands (place : ℕ) (order : List ℕ) (i : ℕ) : Type 0 where
  pub behind : ℕ
  pub is : place_in place order i ≡ place + behind
  pub there : slice_get order behind ≡ Some i

pub place-there : (place : ℕ) (order : List ℕ) (i : ℕ) → has i order ≡ true → Stands place order i
place-there place [] i h = absurd (true≢false (sym h))
place-there place (j ∷ js) i h = by (place-there (suc place) js i) (eqb_tells i j)
  where
    later : Stands (suc place) js i → nat_eq i j ≡ false → Stands place (j ∷ js) i
    later s f = record { behind = suc s.behind; is = ap (λ (b : Bool). if b then place else place_in (suc place) js i) f ∙ s.is ∙ omega arith; there = s.there }

    rest : (b : Bool) → nat_eq i j ≡ b → b ≡ false → (b || has i js) ≡ true → has i js ≡ true
    rest true e f t = absurd (true≢false f)
    rest false e f t = t

    by : (has i js ≡ true → Stands (suc place) js i) → ((nat_eq i j ≡ true) × (i ≡ j)) ⊎ ((nat_eq i j ≡ false) × (i ≢ j)) → Stands place (j ∷ js) i
    by further (inl (t, e)) = record { behind = 0; is = ap (λ (b : Bool). if b then place else place_in (suc place) js i) t ∙ omega arith; there = ap Some (sym e) }
    by further (inr (f, n)) = later (further (rest (nat_eq i j) refl f h)) f

pub place-absent : (place : ℕ) (order : List ℕ) (i : ℕ) → has i order ≡ false → place_in place order i ≡ i
place-absent place [] i h = refl
place-absent place (j ∷ js) i h =
    let q = or_parts (nat_eq i j) (has i js) h in ap (λ (b : Bool). if b then place else place_in (suc place) js i) q.0 ∙ place-absent (suc place) js i q.1

-- ---- what is arranged

module _ {A : Type 0} (all : List A) where
  pub found : (xs : List A) (i : ℕ) → i < length xs → (x : A) × (slice_get xs i ≡ Some x)
  found [] i h = absurd (omega arith)
  found (x ∷ xs) zero h = (x, refl)
  found (x ∷ xs) (suc i) h = found xs i (omega arith)

  arranged-cons : (j : ℕ) (js : List ℕ) (x : A) → slice_get all j ≡ Some x → arranged all (j ∷ js) ≡ x ∷ arranged all js
  arranged-cons j js x e = ap (λ (o : Option A). option_to_list o ++ arranged all js) e

  abbrev pub AreThere : List ℕ → Type 0
  AreThere order = (k : ℕ) → has k order ≡ true → k < length all

  first-there : (j : ℕ) (js : List ℕ) → AreThere (j ∷ js) → (x : A) × (slice_get all j ≡ Some x)
  first-there j js w = found all j (w j (or_left (nat_eq j j) (has j js) (eq-eqb j j refl)))

  rest-there : (j : ℕ) (js : List ℕ) → AreThere (j ∷ js) → AreThere js
  rest-there j js w k h = w k (or_right (nat_eq k j) (has k js) h)

  pub arranged-at : (order : List ℕ) (n i : ℕ) → AreThere order → slice_get order n ≡ Some i → slice_get (arranged all order) n ≡ slice_get all i
  arranged-at [] n i w h = absurd (cc)
  arranged-at (j ∷ js) zero i w h =
      let x = first-there j js w in ap (λ (l : List A). slice_get l 0) (arranged-cons j js x.0 x.1) ∙ sym x.1 ∙ ap (slice_get all) (same_Some j i h)
  arranged-at (j ∷ js) (suc n) i w h =
      let x = first-there j js w in ap (λ (l : List A). slice_get l (suc n)) (arranged-cons j js x.0 x.1) ∙ arranged-at js n i (rest-there j js w) h

  pub arranged-length : (order : List ℕ) → AreThere order → length (arranged all order) ≡ length order
  arranged-length [] w = refl
  arranged-length (j ∷ js) w = let x = first-there j js w in ap length (arranged-cons j js x.0 x.1) ∙ ap suc (arranged-length js (rest-there j js w))

  pub arranged-all : (test : A → Bool) (order : List ℕ) → ((k : ℕ) (x : A) → has k order ≡ true → slice_get all k ≡ Some x → test x ≡ true) → list_all test (arranged all order) ≡ true
  arranged-all test [] w = refl
  arranged-all test (j ∷ js) w = by (arranged-all test js (λ k x h e. w k x (or_right (nat_eq k j) (has k js) h) e)) (slice_get all j) refl
    where
      by : list_all test (arranged all js) ≡ true → (o : Option A) → slice_get all j ≡ o → list_all test (option_to_list o ++ arranged all js) ≡ true
      by rest None e = rest
      by rest (Some x) e = and_from (test x) (list_all test (arranged all js)) (w j x (or_left (nat_eq j j) (has j js) (eq-eqb j j refl)) e) rest

-- what an order of all from the beginning arranges, at its new place
module _ {A : Type 0} (all : List A) (text : List ℕ) where
  abbrev order : List ℕ
  order = ordered 0 (length all) text

  all-there : AreThere all order
  all-there k h = (ordered-within 0 (length all) text k h).1

  all-past : (i : ℕ) → has i order ≡ false → length all ≤ i
  all-past i f = let n : i < length all → ⊥ = λ l. true≢false (sym (ordered-has 0 (length all) text i (omega arith) l) ∙ f) in omega (arith, n)

  pub whole-few : length (arranged all order) ≤ length all
  whole-few = let l = ordered-few 0 (length all) text (omega arith) in let m = arranged-length all order all-there in omega (arith, l, m)

  pub whole-at : (i : ℕ) → slice_get (arranged all order) (place_in 0 order i) ≡ slice_get all i
  whole-at i = by (cases_Bool (has i order))
    where
      by : (has i order ≡ true) ⊎ (has i order ≡ false) → slice_get (arranged all order) (place_in 0 order i) ≡ slice_get all i
      by (inl h) =
          let s = place-there 0 order i h in
          let e : 0 + s.behind ≡ s.behind = omega arith in
          ap (slice_get (arranged all order)) (s.is ∙ e) ∙ arranged-at all order s.behind i all-there s.there
      by (inr f) =
          let l = all-past i f in
          let m = whole-few in
          ap (slice_get (arranged all order)) (place-absent 0 order i f) ∙ slice_get_past (arranged all order) i (omega (arith, m, l)) ∙ sym (slice_get_past all i l)
