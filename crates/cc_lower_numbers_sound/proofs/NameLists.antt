-- Names in lists: parts of distinct names, and names that are among others.
use Rattle.std.proofs.Common.{◌≡◌, ◌∙◌, ◌⊎◌, inl, inr, ◌<◌, ℕ, zero, suc, true, false, List, [], ◌∷◌, ◌++◌, length, take, get_or, refl, ap, sym, arith}
use Rattle.std.specs.List.{list_all, flat_map}
use Rattle.std.specs.Str.{bytes_eq}
use Rattle.std.proofs.lemmas.Bool.{true≢false, and_parts, and_from, or_cases, or_left, or_right, false_from_ne_true}
use Rattle.std.proofs.lemmas.List.Folds.{list_any-append}
use Rattle.cc_given_names.specs.Spaces.{AreAmong}
use Rattle.cc_given_names.proofs.Among.{same-text, among-first, among-left, among-right, left-absent, right-absent, absent, first-apart, rest-distinct, distinct-cons}
use Rattle.cc_names.specs.Names.{is_among}
use Rattle.cc_syntax.specs.Names.{local_names}
use Rattle.cc_syntax.specs.Types.{Named}
use Rattle.cc_program.specs.CcWords.Names.{is_name, are_distinct}

abbrev pub Apart : List (List ℕ) → List (List ℕ) → Type 0
Apart xs ys = (x : List ℕ) → is_among x xs ≡ true → is_among x ys ≡ false

pub two-apart : (x y : List ℕ) (xs : List (List ℕ)) → is_among x xs ≡ false → is_among y xs ≡ true → bytes_eq x y ≡ false
two-apart x y xs h k = false_from_ne_true (bytes_eq x y) (λ e. true≢false (sym k ∙ (ap (λ (z : List ℕ). is_among z xs) (sym (same-text x y e)) ∙ h)))

pub among-either : (x : List ℕ) (xs ys : List (List ℕ)) → is_among x (xs ++ ys) ≡ true → (is_among x xs ≡ true) ⊎ (is_among x ys ≡ true)
among-either x xs ys h = or_cases (is_among x xs) (is_among x ys) (sym (list_any-append (bytes_eq x) xs ys) ∙ h)

-- ---- parts of distinct names

pub distinct-front : (xs ys : List (List ℕ)) → are_distinct (xs ++ ys) ≡ true → are_distinct xs ≡ true
distinct-front [] ys h = refl
distinct-front (x ∷ xs) ys h = distinct-cons x xs (left-absent x xs ys (first-apart x (xs ++ ys) h)) (distinct-front xs ys (rest-distinct x (xs ++ ys) h))

pub distinct-back : (xs ys : List (List ℕ)) → are_distinct (xs ++ ys) ≡ true → are_distinct ys ≡ true
distinct-back [] ys h = h
distinct-back (x ∷ xs) ys h = distinct-back xs ys (rest-distinct x (xs ++ ys) h)

pub parts-apart : (xs ys : List (List ℕ)) → are_distinct (xs ++ ys) ≡ true → Apart xs ys
parts-apart [] ys h z i = absurd (true≢false (sym i))
parts-apart (x ∷ xs) ys h z i = by (parts-apart xs ys (rest-distinct x (xs ++ ys) h) z) (or_cases (bytes_eq z x) (is_among z xs) i)
  where
    by : (is_among z xs ≡ true → is_among z ys ≡ false) → (bytes_eq z x ≡ true) ⊎ (is_among z xs ≡ true) → is_among z ys ≡ false
    by rest (inl e) = ap (λ (y : List ℕ). is_among y ys) (same-text z x e) ∙ right-absent x xs ys (first-apart x (xs ++ ys) h)
    by rest (inr k) = rest k

pub taken-among : (n : ℕ) (xs : List (List ℕ)) → AreAmong (take n xs) xs
taken-among zero xs x h = absurd (true≢false (sym h))
taken-among (suc n) [] x h = absurd (true≢false (sym h))
taken-among (suc n) (y ∷ xs) x h = by (taken-among n xs x) (or_cases (bytes_eq x y) (is_among x (take n xs)) h)
  where
    by : (is_among x (take n xs) ≡ true → is_among x xs ≡ true) → (bytes_eq x y ≡ true) ⊎ (is_among x (take n xs) ≡ true) → is_among x (y ∷ xs) ≡ true
    by rest (inl e) = or_left (bytes_eq x y) (is_among x xs) e
    by rest (inr k) = or_right (bytes_eq x y) (is_among x xs) (rest k)

pub taken-distinct : (n : ℕ) (xs : List (List ℕ)) → are_distinct xs ≡ true → are_distinct (take n xs) ≡ true
taken-distinct zero xs h = refl
taken-distinct (suc n) [] h = refl
taken-distinct (suc n) (x ∷ xs) h = distinct-cons x (take n xs) (absent x (take n xs) xs (taken-among n xs) (first-apart x xs h)) (taken-distinct n xs (rest-distinct x xs h))

-- ---- what names may be

pub named-among : (x : List ℕ) (ys : List (List ℕ)) → list_all is_name ys ≡ true → is_among x ys ≡ true → is_name x ≡ true
named-among x [] h i = absurd (true≢false (sym i))
named-among x (y ∷ ys) h i = by (named-among x ys (and_parts (is_name y) (list_all is_name ys) h).1) (or_cases (bytes_eq x y) (is_among x ys) i)
  where
    p : (is_name y ≡ true) × (list_all is_name ys ≡ true)
    p = and_parts (is_name y) (list_all is_name ys) h

    by : (is_among x ys ≡ true → is_name x ≡ true) → (bytes_eq x y ≡ true) ⊎ (is_among x ys ≡ true) → is_name x ≡ true
    by rest (inl e) = ap is_name (same-text x y e) ∙ p.0
    by rest (inr k) = rest k

pub all-named : (xs ys : List (List ℕ)) → AreAmong xs ys → list_all is_name ys ≡ true → list_all is_name xs ≡ true
all-named [] ys w h = refl
all-named (x ∷ xs) ys w h =
    and_from (is_name x) (list_all is_name xs) (named-among x ys h (w x (among-first x xs))) (all-named xs ys (λ z i. w z (or_right (bytes_eq z x) (is_among z xs) i)) h)

-- ---- names of locals

pub names-append : (xs ys : List Named) → local_names (xs ++ ys) ≡ local_names xs ++ local_names ys
names-append [] ys = refl
names-append (x ∷ xs) ys = ap (λ (l : List (List ℕ)). x.0 ∷ l) (names-append xs ys)

pub names-take : (n : ℕ) (xs : List Named) → local_names (take n xs) ≡ take n (local_names xs)
names-take zero xs = refl
names-take (suc n) [] = refl
names-take (suc n) (x ∷ xs) = ap (λ (l : List (List ℕ)). x.0 ∷ l) (names-take n xs)

pub among-flat : {A : Type 0} (g : A → List (List ℕ)) (xs : List A) (i : ℕ) (d : A) (x : List ℕ) → i < length xs → is_among x (g (get_or xs i d)) ≡ true → is_among x (flat_map g xs) ≡ true
among-flat g [] i d x l h = absurd (omega arith)
among-flat g (y ∷ ys) zero d x l h = among-left x (g y) (flat_map g ys) h
among-flat g (y ∷ ys) (suc i) d x l h = among-right x (g y) (flat_map g ys) (among-flat g ys i d x (omega arith) h)
