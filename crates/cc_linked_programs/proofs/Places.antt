-- Elements of lists by positions and tests, and lists without the same name twice.
use Rattle.std.proofs.Common.{◌≡◌, ◌∙◌, inl, inr, ℕ, zero, suc, Bool, true, false, true≢false, not, ◌&&◌, cond, List, [], ◌∷◌, ◌++◌, length, get_or, Some, None, slice_get, refl, ap, sym, subst}
use Rattle.std.specs.Prelude.{position}
use Rattle.std.specs.List.{list_all, list_any, position_or_len}
use Rattle.std.specs.Str.{bytes_eq}
use Rattle.std.proofs.lemmas.Bool.{lt-ltb}
use Rattle.std.proofs.lemmas.List.Folds.{list_any-append}
use Rattle.std.proofs.lemmas.Option.{slice_get-get_or}
use Rattle.std.proofs.lemmas.Slice.Eq.{bytes_eq-Decides}
use Rattle.cc_structures.proofs.ClassLemmas.{position-passes, position-within}
use Rattle.cc_structures.proofs.Elements.{In, any-in}
use Rattle.cc_operands.proofs.CcSyntax.Prefixes.{both_true}
use Rattle.cc_program.specs.CcWords.Names.{are_distinct}

-- ---- the first that passes a test

pub record PlacedBy {X : Type 0} (p : X → Bool) (xs : List X) : Type 0 where
  pub at : ℕ
  pub is : position p xs ≡ Some at
  pub element : X
  pub there : slice_get xs at ≡ Some element
  pub passes : p element ≡ true

pub placed-by : {X : Type 0} (p : X → Bool) (xs : List X) (d : X) → list_any p xs ≡ true → PlacedBy p xs
placed-by p xs d any =
    let n = position_or_len p xs in
    let within = position-within p xs any in
    record {
      at = n;
      is = ap (λ (b : Bool). cond b (Some n) None) (lt-ltb n (length xs) within);
      element = get_or xs n d;
      there = slice_get-get_or xs n d within;
      passes = position-passes p xs d any;
    }

pub in-place : {X : Type 0} (xs : List X) (x : X) → In x xs → (i : ℕ) × (slice_get xs i ≡ Some x)
in-place [] x h = absurd h
in-place {X} (y ∷ ys) x (inl e) = (zero, ap (λ (z : X). Some z) e)
in-place (y ∷ ys) x (inr h) = let r = in-place ys x h in (suc r.0, r.1)

pub all-at : {X : Type 0} (p : X → Bool) (xs : List X) (x : X) → list_all p xs ≡ true → In x xs → p x ≡ true
all-at p [] x h i = absurd i
all-at p (y ∷ ys) x h (inl e) = sym (ap p e) ∙ (both_true (p y) (list_all p ys) h).0
all-at p (y ∷ ys) x h (inr i) = all-at p ys x (both_true (p y) (list_all p ys) h).1 i

-- ---- names

pub bytes-one : (x y : List ℕ) → bytes_eq x y ≡ true → x ≡ y
bytes-one x y h = (bytes_eq-Decides x y).0 h

pub bytes-itself : (x : List ℕ) → bytes_eq x x ≡ true
bytes-itself x = (bytes_eq-Decides x x).1 refl

negated : (b : Bool) → not b ≡ true → b ≡ false
negated true h = absurd (true≢false (sym h))
negated false h = refl

in-slice : {X : Type 0} (xs : List X) (i : ℕ) (x : X) → slice_get xs i ≡ Some x → In x xs
in-slice [] i x e = absurd (cc)
in-slice (y ∷ ys) zero x e = inl (cc e)
in-slice (y ∷ ys) (suc i) x e = inr (in-slice ys i x e)

-- each name has one place
pub distinct-places : (xs : List (List ℕ)) → are_distinct xs ≡ true → (i j : ℕ) (x : List ℕ) → slice_get xs i ≡ Some x → slice_get xs j ≡ Some x → i ≡ j
distinct-places [] h i j x e f = absurd (cc)
distinct-places (y ∷ ys) h zero zero x e f = refl
distinct-places (y ∷ ys) h zero (suc j) x e f =
    let s : y ≡ x = cc e in
    let b = both_true (not (list_any (bytes_eq y) ys)) (are_distinct ys) h in
    absurd (true≢false (sym (any-in (bytes_eq y) ys x (in-slice ys j x f) (subst (λ (z : List ℕ). bytes_eq y z ≡ true) s (bytes-itself y))) ∙ negated (list_any (bytes_eq y) ys) b.0))
distinct-places (y ∷ ys) h (suc i) zero x e f =
    let s : y ≡ x = cc f in
    let b = both_true (not (list_any (bytes_eq y) ys)) (are_distinct ys) h in
    absurd (true≢false (sym (any-in (bytes_eq y) ys x (in-slice ys i x e) (subst (λ (z : List ℕ). bytes_eq y z ≡ true) s (bytes-itself y))) ∙ negated (list_any (bytes_eq y) ys) b.0))
distinct-places (y ∷ ys) h (suc i) (suc j) x e f = ap suc (distinct-places ys (both_true (not (list_any (bytes_eq y) ys)) (are_distinct ys) h).1 i j x e f)

pub distinct-right : (xs ys : List (List ℕ)) → are_distinct (xs ++ ys) ≡ true → are_distinct ys ≡ true
distinct-right [] ys h = h
distinct-right (x ∷ xs) ys h = distinct-right xs ys (both_true (not (list_any (bytes_eq x) (xs ++ ys))) (are_distinct (xs ++ ys)) h).1

pub distinct-left : (xs ys : List (List ℕ)) → are_distinct (xs ++ ys) ≡ true → are_distinct xs ≡ true
distinct-left [] ys h = refl
distinct-left (x ∷ xs) ys h =
    let b = both_true (not (list_any (bytes_eq x) (xs ++ ys))) (are_distinct (xs ++ ys)) h in
    by (list_any (bytes_eq x) xs) refl b.0 (distinct-left xs ys b.1)
  where
    by : (c : Bool) → list_any (bytes_eq x) xs ≡ c → not (list_any (bytes_eq x) (xs ++ ys)) ≡ true → are_distinct xs ≡ true → not (list_any (bytes_eq x) xs) && are_distinct xs ≡ true
    by false e n rest = rw (e, rest) refl
    by true e n rest =
        let any : list_any (bytes_eq x) (xs ++ ys) ≡ true = list_any-append (bytes_eq x) xs ys ∙ rw e refl in
        absurd (true≢false (sym n ∙ ap not any))
