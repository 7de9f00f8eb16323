-- Names of temporaries that are given one after the other: the least number that makes a free name is the next one that was not tried.
use Rattle.std.proofs.Common.{◌≡◌, ◌∙◌, ◌+◌, ◌-◌, ◌<◌, ◌≤◌, ◌^◌, ◌⊎◌, inl, inr, ℕ, zero, suc, Bool, true, false, true≢false, List, [], ◌∷◌, ◌++◌, length, refl, ap, sym, subst, arith, append_assoc, length-append, if◌then◌else◌}
use Rattle.std.specs.Prelude.{not, ◌||◌, codes, replicate, unwrap_or}
use Rattle.std.specs.Str.{bytes_eq}
use Rattle.std.proofs.lemmas.Bool.{cases_lt, false_from_ne_true}
use Rattle.std.proofs.lemmas.List.{append-nil, length-map}
use Rattle.std.proofs.lemmas.List.Folds.{list_any-append}
use Rattle.cc_given_names.specs.Spaces.{AreAmong}
use Rattle.cc_given_names.proofs.Among.{same-text, among-right, among-left, among-first, absent-both, no-more}
use Rattle.cc_given_names.proofs.Numerals.{names_from, names-distinct, length-numbers, same-number}
use Rattle.cc_names.specs.Names.{Numbered, is_among, is_free, names_for, new_name, numbers_from, with_number}
use Rattle.cc_names.specs.View.{HaveSame}
use Rattle.cc_names.proofs.Numbers.{find-number}
use Rattle.cc_lower_numbers.specs.TemporaryNames.{temporary, with_temporary}

-- so many names from here on, where these were given
abbrev names_left : List (List ℕ) → List (List ℕ) → ℕ → List (List ℕ)
names_left reserved given n = names_for reserved given given (replicate n (Numbered (codes "t")))

-- all numbers below one were tried, and these names were given
pub record AreGiven (reserved : List (List ℕ)) (count i : ℕ) (given : List (List ℕ)) : Type 0 where
  pub low : 1 ≤ i
  pub few : length given ≤ count
  pub whole : names_left reserved [] count ≡ given ++ names_left reserved given (count - length given)
  pub tried : (j : ℕ) → 1 ≤ j → j < i → is_among (temporary j) (reserved ++ given) ≡ true
  pub later : (j : ℕ) → i ≤ j → j < 10 ^ 64 → is_among (temporary j) given ≡ false

pub none_given : (reserved : List (List ℕ)) (count : ℕ) → AreGiven reserved count 1 []
none_given reserved count = record {
  low = omega arith;
  few = omega arith;
  whole = let e : count ≡ count - 0 = omega arith in ap (names_left reserved []) e;
  tried = λ j l u. absurd (omega (arith, l, u));
  later = λ j l u. refl;
}

all_among : (base : List ℕ) (k n : ℕ) (ys : List (List ℕ)) → ((j : ℕ) → k ≤ j → j < k + n → is_among (with_number base j) ys ≡ true) → AreAmong (names_from base k n) ys
all_among base k zero ys h x e = absurd (true≢false (sym e))
all_among base k (suc n) ys h x e = by (bytes_eq x (with_number base k)) refl e (all_among base (suc k) n ys (λ j l u. h j (omega (arith, l)) (omega (arith, u))) x)
  where
    by : (b : Bool) → bytes_eq x (with_number base k) ≡ b → (b || is_among x (names_from base (suc k) n)) ≡ true → (is_among x (names_from base (suc k) n) ≡ true → is_among x ys ≡ true) → is_among x ys ≡ true
    by true g i rest = ap (λ (z : List ℕ). is_among z ys) (same-text x (with_number base k) g) ∙ h k (omega arith) (omega arith)
    by false g i rest = rest i

-- no more numbers were tried than names are taken
few_tried : (ys : List (List ℕ)) (i : ℕ) → 1 ≤ i → i < 2 ^ 64 → ((j : ℕ) → 1 ≤ j → j < i → is_among (temporary j) ys ≡ true) → i ≤ 1 + length ys
few_tried ys zero l u h = absurd (omega (arith, l))
few_tried ys (suc m) l u h =
    let t = codes "t" in
    let d = names-distinct t 1 m (omega (arith, u)) in
    let n = no-more (names_from t 1 m) ys d (all_among t 1 m ys (λ j a b. h j a (omega (arith, b)))) in
    let c = length-map (numbers_from 1 m) (with_number t) ∙ length-numbers 1 m in
    omega (arith, n, c)

not_free : (reserved given : List (List ℕ)) (x : List ℕ) → is_among x (reserved ++ given) ≡ true → is_free reserved given x ≡ false
not_free reserved given x h = ap not (sym (list_any-append (bytes_eq x) reserved given) ∙ h)

free : (reserved given : List (List ℕ)) (x : List ℕ) → is_among x reserved ≡ false → is_among x given ≡ false → is_free reserved given x ≡ true
free reserved given x h k = ap not (sym (list_any-append (bytes_eq x) reserved given) ∙ absent-both x reserved given h k)

next_new : (reserved given : List (List ℕ)) (i : ℕ) → 1 ≤ i → i < 2 ^ 64 → ((j : ℕ) → 1 ≤ j → j < i → is_among (temporary j) (reserved ++ given) ≡ true) →
    is_among (temporary i) reserved ≡ false → is_among (temporary i) given ≡ false → new_name reserved given (codes "t") 1 ≡ temporary i
next_new reserved given i l u tried h k =
    let bound = few_tried (reserved ++ given) i l u tried in
    let a = length-append reserved given in
    ap (λ o. temporary (unwrap_or o 1))
    (find-number (λ j. is_free reserved given (temporary j)) (suc (length reserved + length given)) 1 i l (omega (arith, bound, a))
    (free reserved given (temporary i) h k)
    (λ j x y. not_free reserved given (temporary j) (tried j x y)))

other_number : (i j : ℕ) → i < j → j < 10 ^ 64 → bytes_eq (temporary j) (temporary i) ≡ false
other_number i j h u = false_from_ne_true (bytes_eq (temporary j) (temporary i)) (λ e. apart (same-number (codes "t") j i u (omega (arith, h, u)) (same-text (temporary j) (temporary i) e)))
  where
    apart : j ≡ i → ⊥
    apart e = absurd (omega (arith, h, e))

one_left : (reserved given : List (List ℕ)) (n : ℕ) (x : List ℕ) → new_name reserved given (codes "t") 1 ≡ x → 0 < n → names_left reserved given n ≡ x ∷ names_left reserved (given ++ x ∷ []) (n - 1)
unfolding names_for
one_left reserved given zero x e h = absurd (omega (arith, h))
one_left reserved given (suc n) x e h =
    let one : n ≡ suc n - 1 = omega arith in
    ap (λ y. y ∷ names_left reserved (given ++ y ∷ []) n) e ∙ ap (λ k. x ∷ names_left reserved (given ++ x ∷ []) k) one

below_next : (i j : ℕ) → j < i + 1 → (j < i) ⊎ (j ≡ i)
below_next i j h = by (cases_lt j i)
  where
    by : (j < i) ⊎ (i ≤ j) → (j < i) ⊎ (j ≡ i)
    by (inl l) = inl l
    by (inr l) = inr (omega (arith, l, h))

-- the name with the next number is reserved
passed : (reserved : List (List ℕ)) (count i : ℕ) (given : List (List ℕ)) → AreGiven reserved count i given → is_among (temporary i) reserved ≡ true → AreGiven reserved count (i + 1) given
passed reserved count i given g h = record {
  low = omega arith;
  few = g.few;
  whole = g.whole;
  tried = λ j l u. by j l (below_next i j u);
  later = λ j l u. g.later j (omega (arith, l)) u;
}
  where
    by : (j : ℕ) → 1 ≤ j → (j < i) ⊎ (j ≡ i) → is_among (temporary j) (reserved ++ given) ≡ true
    by j l (inl u) = g.tried j l u
    by j l (inr e) = ap (λ n. is_among (temporary n) (reserved ++ given)) e ∙ among-left (temporary i) reserved given h

-- it is free, and given
taken : (reserved : List (List ℕ)) (count i : ℕ) (given : List (List ℕ)) → AreGiven reserved count i given → length given < count → i < 2 ^ 64 → is_among (temporary i) reserved ≡ false → AreGiven reserved count (i + 1) (given ++ temporary i ∷ [])
taken reserved count i given g more u h = record {
  low = omega arith;
  few = let l = length-append given (temporary i ∷ []) in omega (arith, l, more);
  whole = g.whole ∙ (ap (λ l. given ++ l) (one_left reserved given (count - length given) (temporary i) new (omega (arith, more))) ∙ (sym (append_assoc given (temporary i ∷ []) (names_left reserved (given ++ temporary i ∷ []) (count - length given - 1)))
      ∙ ap (λ n. (given ++ temporary i ∷ []) ++ names_left reserved (given ++ temporary i ∷ []) n) fewer));
  tried = λ j l v. by j l (below_next i j v);
  later = λ j l v. absent-both (temporary j) given (temporary i ∷ []) (g.later j (omega (arith, l)) v) (ap (λ b. b || false) (other_number i j (omega (arith, l)) v));
}
  where
    new : new_name reserved given (codes "t") 1 ≡ temporary i
    new = next_new reserved given i g.low u g.tried h (g.later i (omega arith) (omega (arith, u)))

    fewer : count - length given - 1 ≡ count - length (given ++ temporary i ∷ [])
    fewer = let l = length-append given (temporary i ∷ []) in omega (arith, l)

    by : (j : ℕ) → 1 ≤ j → (j < i) ⊎ (j ≡ i) → is_among (temporary j) (reserved ++ (given ++ temporary i ∷ [])) ≡ true
    by j l (inl v) = ap (is_among (temporary j)) (sym (append_assoc reserved given (temporary i ∷ []))) ∙ among-left (temporary j) (reserved ++ given) (temporary i ∷ []) (g.tried j l v)
    by j l (inr e) = ap (λ n. is_among (temporary n) (reserved ++ (given ++ temporary i ∷ []))) e
        ∙ among-right (temporary i) reserved (given ++ temporary i ∷ []) (among-right (temporary i) given (temporary i ∷ []) (among-first (temporary i) []))

-- ---- the loop

pub give_more : (names reserved : List (List ℕ)) (count i : ℕ) (given next : List (List ℕ)) → HaveSame names reserved → AreGiven reserved count i given → (length given ≡ count → ⊥) → i < 2 ^ 64 → next ≡ with_temporary names given i → AreGiven reserved count (i + 1) next
give_more names reserved count i given next same g more u is = subst (AreGiven reserved count (i + 1)) (sym is) (by (is_among (temporary i) names) (sym (same (temporary i))))
  where
    by : (b : Bool) → is_among (temporary i) reserved ≡ b → AreGiven reserved count (i + 1) (if b then given else given ++ temporary i ∷ [])
    by true e = passed reserved count i given g e
    by false e = let few = g.few in taken reserved count i given g (fewer few) u e
      where
        fewer : length given ≤ count → length given < count
        fewer few = elim (cases_lt (length given) count) [ inl l ↦ l | inr l ↦ absurd (more (omega (arith, few, l))) ]

pub give_end : (reserved : List (List ℕ)) (count i : ℕ) (given : List (List ℕ)) → AreGiven reserved count i given → length given ≡ count → given ≡ names_for reserved [] [] (replicate count (Numbered (codes "t")))
unfolding names_for
give_end reserved count i given g h =
    let none : count - length given ≡ 0 = omega (arith, h) in
    sym (g.whole ∙ (ap (λ n. given ++ names_left reserved given n) none ∙ append-nil given))

pub ruleset of_given = (none_given, give_more, give_end)
