-- Elements of lists: by positions, in names that are distinct, and of what a function gives.
use Rattle.std.proofs.Common.{◌≡◌, ◌∙◌, inl, inr, ℕ, zero, suc, Bool, true, true≢false, List, [], ◌∷◌, map, Option, Some, None, slice_get, refl, ap, sym}
use Rattle.std.specs.Prelude.{filter_map}
use Rattle.std.specs.List.{cons_option, list_all}
use Rattle.std.specs.Str.{bytes_eq}
use Rattle.std.proofs.lemmas.Bool.{and_parts, and_from, or_right}
use Rattle.cc_given_names.proofs.Among.{among-first, first-apart, rest-distinct}
use Rattle.cc_names.specs.Names.{is_among}
use Rattle.cc_structures.proofs.Elements.{In}
use Rattle.cc_program.specs.CcWords.Names.{are_distinct}

pub in-at : {X : Type 0} (xs : List X) (i : ℕ) (x : X) → slice_get xs i ≡ Some x → In x xs
in-at [] i x e = absurd (cc)
in-at (y ∷ ys) zero x e = inl (cc e)
in-at (y ∷ ys) (suc i) x e = inr (in-at ys i x e)

pub at-in : {X : Type 0} (xs : List X) (x : X) → In x xs → (i : ℕ) × (slice_get xs i ≡ Some x)
at-in [] x h = absurd h
at-in (y ∷ ys) x (inl e) = (zero, ap Some e)
at-in (y ∷ ys) x (inr h) = let r = at-in ys x h in (suc r.0, r.1)

pub all-at : {X : Type 0} (p : X → Bool) (xs : List X) (i : ℕ) (x : X) → list_all p xs ≡ true → slice_get xs i ≡ Some x → p x ≡ true
all-at p [] i x h e = absurd (cc)
all-at {X} p (y ∷ ys) zero x h e = let s : y ≡ x = cc e in sym (ap p s) ∙ (and_parts (p y) (list_all p ys) h).0
all-at p (y ∷ ys) (suc i) x h e = all-at p ys i x (and_parts (p y) (list_all p ys) h).1 e

pub all-of : {X : Type 0} (p : X → Bool) (xs : List X) → ((x : X) → In x xs → p x ≡ true) → list_all p xs ≡ true
all-of p [] h = refl
all-of p (x ∷ xs) h = and_from (p x) (list_all p xs) (h x (inl refl)) (all-of p xs (λ y i. h y (inr i)))

pub all-in : {X : Type 0} (p : X → Bool) (xs : List X) (x : X) → list_all p xs ≡ true → In x xs → p x ≡ true
all-in p [] x h i = absurd i
all-in p (y ∷ ys) x h (inl e) = sym (ap p e) ∙ (and_parts (p y) (list_all p ys) h).0
all-in p (y ∷ ys) x h (inr i) = all-in p ys x (and_parts (p y) (list_all p ys) h).1 i

pub all-map : {X Y : Type 0} (p : Y → Bool) (f : X → Y) (xs : List X) → ((x : X) → In x xs → p (f x) ≡ true) → list_all p (map f xs) ≡ true
all-map p f [] h = refl
all-map p f (x ∷ xs) h = and_from (p (f x)) (list_all p (map f xs)) (h x (inl refl)) (all-map p f xs (λ y i. h y (inr i)))

-- what gives it
pub in-filter_map : {X Y : Type 0} (f : X → Option Y) (xs : List X) (y : Y) → In y (filter_map f xs) → (x : X) × (In x xs) × (f x ≡ Some y)
in-filter_map f [] y h = absurd h
in-filter_map {X} {Y} f (x ∷ xs) y h = by (f x) refl h (in-filter_map f xs y)
  where
    by : (o : Option Y) → f x ≡ o → In y (cons_option o (filter_map f xs)) → (In y (filter_map f xs) → (z : X) × (In z xs) × (f z ≡ Some y)) → (z : X) × (In z (x ∷ xs)) × (f z ≡ Some y)
    by None e i rest = let r = rest i in (r.0, inr r.1, r.2)
    by (Some w) e (inl s) rest = (x, inl refl, e ∙ ap Some s)
    by (Some w) e (inr i) rest = let r = rest i in (r.0, inr r.1, r.2)

-- ---- names by their positions

pub among-at : (xs : List (List ℕ)) (i : ℕ) (x : List ℕ) → slice_get xs i ≡ Some x → is_among x xs ≡ true
among-at [] i x e = absurd (cc)
among-at (y ∷ ys) zero x e = let s : y ≡ x = cc e in ap (λ (z : List ℕ). is_among x (z ∷ ys)) s ∙ among-first x ys
among-at (y ∷ ys) (suc i) x e = or_right (bytes_eq x y) (is_among x ys) (among-at ys i x e)

pub one-position : (xs : List (List ℕ)) → are_distinct xs ≡ true → (i j : ℕ) (x : List ℕ) → slice_get xs i ≡ Some x → slice_get xs j ≡ Some x → i ≡ j
one-position [] d i j x e f = absurd (cc)
one-position (y ∷ ys) d zero zero x e f = refl
one-position (y ∷ ys) d zero (suc j) x e f =
    let s : y ≡ x = cc e in
    absurd (true≢false (sym (among-at ys j x f) ∙ (ap (λ (z : List ℕ). is_among z ys) (sym s) ∙ first-apart y ys d)))
one-position (y ∷ ys) d (suc i) zero x e f =
    let s : y ≡ x = cc f in
    absurd (true≢false (sym (among-at ys i x e) ∙ (ap (λ (z : List ℕ). is_among z ys) (sym s) ∙ first-apart y ys d)))
one-position (y ∷ ys) d (suc i) (suc j) x e f = ap suc (one-position ys (rest-distinct y ys d) i j x e f)
