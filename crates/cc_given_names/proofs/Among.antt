-- Lists of names: what is among them, and that distinct names are no more than those that they are among.
use Rattle.std.proofs.Common.{◌≡◌, ◌∙◌, ◌≤◌, ℕ, suc, Bool, true, false, true≢false, cond, List, [], ◌∷◌, ◌++◌, length, refl, ap, sym, arith}
use Rattle.std.specs.Prelude.{not, ◌||◌, ◌&&◌}
use Rattle.std.specs.Str.{bytes_eq}
use Rattle.std.proofs.lemmas.Bool.{and_parts, or_parts, or_left, or_right, not-true, false_from_ne_true}
use Rattle.std.proofs.lemmas.List.Folds.{list_any-append}
use Rattle.std.proofs.lemmas.Slice.Eq.{bytes_eq-Decides}
use Rattle.cc_given_names.specs.Spaces.{AreAmong}
use Rattle.cc_names.specs.Names.{is_among}
use Rattle.cc_words.specs.Names.{are_distinct}

pub same-text : (x y : List ℕ) → bytes_eq x y ≡ true → x ≡ y
same-text x y = (bytes_eq-Decides x y).0

pub itself : (x : List ℕ) → bytes_eq x x ≡ true
itself x = (bytes_eq-Decides x x).1 refl

pub among-first : (x : List ℕ) (xs : List (List ℕ)) → is_among x (x ∷ xs) ≡ true
among-first x xs = or_left (bytes_eq x x) (is_among x xs) (itself x)

-- two names of which one is among others, and one is not
pub are-apart : (x y : List ℕ) (xs : List (List ℕ)) → is_among x xs ≡ true → is_among y xs ≡ false → bytes_eq x y ≡ false
are-apart x y xs h k = false_from_ne_true (bytes_eq x y) (λ e. true≢false (sym h ∙ (ap (λ (z : List ℕ). is_among z xs) (same-text x y e) ∙ k)))

pub left-absent : (x : List ℕ) (xs ys : List (List ℕ)) → is_among x (xs ++ ys) ≡ false → is_among x xs ≡ false
left-absent x xs ys h = (or_parts (is_among x xs) (is_among x ys) (sym (list_any-append (bytes_eq x) xs ys) ∙ h)).0

pub right-absent : (x : List ℕ) (xs ys : List (List ℕ)) → is_among x (xs ++ ys) ≡ false → is_among x ys ≡ false
right-absent x xs ys h = (or_parts (is_among x xs) (is_among x ys) (sym (list_any-append (bytes_eq x) xs ys) ∙ h)).1

pub among-left : (x : List ℕ) (xs ys : List (List ℕ)) → is_among x xs ≡ true → is_among x (xs ++ ys) ≡ true
among-left x xs ys h = list_any-append (bytes_eq x) xs ys ∙ or_left (is_among x xs) (is_among x ys) h

pub among-right : (x : List ℕ) (xs ys : List (List ℕ)) → is_among x ys ≡ true → is_among x (xs ++ ys) ≡ true
among-right x xs ys h = list_any-append (bytes_eq x) xs ys ∙ or_right (is_among x xs) (is_among x ys) h

pub absent-both : (x : List ℕ) (xs ys : List (List ℕ)) → is_among x xs ≡ false → is_among x ys ≡ false → is_among x (xs ++ ys) ≡ false
absent-both x xs ys h k = list_any-append (bytes_eq x) xs ys ∙ by (is_among x xs) (is_among x ys) h k
  where
    by : (a b : Bool) → a ≡ false → b ≡ false → (a || b) ≡ false
    by true b h k = absurd (true≢false h)
    by false b h k = k

pub absent : (x : List ℕ) (xs ys : List (List ℕ)) → AreAmong xs ys → is_among x ys ≡ false → is_among x xs ≡ false
absent x xs ys h k = false_from_ne_true (is_among x xs) (λ e. true≢false (sym (h x e) ∙ k))

-- ---- distinct names

pub first-apart : (x : List ℕ) (xs : List (List ℕ)) → are_distinct (x ∷ xs) ≡ true → is_among x xs ≡ false
first-apart x xs d = not-true (is_among x xs) (and_parts (not (is_among x xs)) (are_distinct xs) d).0

pub rest-distinct : (x : List ℕ) (xs : List (List ℕ)) → are_distinct (x ∷ xs) ≡ true → are_distinct xs ≡ true
rest-distinct x xs d = (and_parts (not (is_among x xs)) (are_distinct xs) d).1

pub distinct-cons : (x : List ℕ) (xs : List (List ℕ)) → is_among x xs ≡ false → are_distinct xs ≡ true → are_distinct (x ∷ xs) ≡ true
distinct-cons x xs h d = by (is_among x xs) (are_distinct xs) h d
  where
    by : (a b : Bool) → a ≡ false → b ≡ true → (not a && b) ≡ true
    by true b h d = absurd (true≢false h)
    by false b h d = d

-- two lists of distinct names that share none
pub distinct-append : (xs ys : List (List ℕ)) → are_distinct xs ≡ true → are_distinct ys ≡ true → ((x : List ℕ) → is_among x xs ≡ true → is_among x ys ≡ false) → are_distinct (xs ++ ys) ≡ true
distinct-append [] ys d e h = e
distinct-append (x ∷ xs) ys d e h =
    distinct-cons x (xs ++ ys) (absent-both x xs ys (first-apart x xs d) (h x (among-first x xs)))
    (distinct-append xs ys (rest-distinct x xs d) e (λ z i. h z (or_right (bytes_eq z x) (is_among z xs) i)))

-- ---- how many there are

abbrev without : List ℕ → List (List ℕ) → List (List ℕ)
without x [] = []
without x (y ∷ ys) = cond (bytes_eq x y) ys (y ∷ without x ys)

length-without : (x : List ℕ) (ys : List (List ℕ)) → is_among x ys ≡ true → length ys ≡ suc (length (without x ys))
length-without x [] h = absurd (true≢false (sym h))
length-without x (y ∷ ys) h = by (bytes_eq x y) h (length-without x ys)
  where
    by : (b : Bool) → (b || is_among x ys) ≡ true → (is_among x ys ≡ true → length ys ≡ suc (length (without x ys))) → suc (length ys) ≡ suc (length (cond b ys (y ∷ without x ys)))
    by true k rest = refl
    by false k rest = ap suc (rest k)

among-without : (x z : List ℕ) (ys : List (List ℕ)) → is_among z ys ≡ true → bytes_eq z x ≡ false → is_among z (without x ys) ≡ true
among-without x z [] h n = absurd (true≢false (sym h))
among-without x z (y ∷ ys) h n = by (bytes_eq x y) refl (bytes_eq z y) refl h (among-without x z ys)
  where
    by : (b : Bool) → bytes_eq x y ≡ b → (c : Bool) → bytes_eq z y ≡ c → (c || is_among z ys) ≡ true → (is_among z ys ≡ true → bytes_eq z x ≡ false → is_among z (without x ys) ≡ true) →
        is_among z (cond b ys (y ∷ without x ys)) ≡ true
    by true e true f k rest = absurd (true≢false (sym ((bytes_eq-Decides z x).1 (same-text z y f ∙ sym (same-text x y e))) ∙ n))
    by true e false f k rest = k
    by false e true f k rest = or_left (bytes_eq z y) (is_among z (without x ys)) f
    by false e false f k rest = or_right (bytes_eq z y) (is_among z (without x ys)) (rest k n)

pub no-more : (xs ys : List (List ℕ)) → are_distinct xs ≡ true → AreAmong xs ys → length xs ≤ length ys
no-more [] ys d h = omega arith
no-more (x ∷ xs) ys d h =
    let apart = first-apart x xs d in
    let rest = no-more xs (without x ys) (rest-distinct x xs d) (λ z i. among-without x z ys (h z (or_right (bytes_eq z x) (is_among z xs) i)) (are-apart z x xs i apart)) in
    let l = length-without x ys (h x (among-first x xs)) in
    omega (arith, rest, l)
