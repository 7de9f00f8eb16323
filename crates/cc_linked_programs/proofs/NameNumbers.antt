-- Lists of numbers that are apart from one another, and how long lists are.
use Rattle.std.proofs.Common.{◌≡◌, ◌∙◌, ◌⊎◌, inl, inr, ◌+◌, ◌<◌, ◌≤◌, ℕ, zero, suc, Bool, true, false, cond, List, [], ◌∷◌, ◌++◌, length, Option, Some, None, refl, ap, sym, arith, length-append}
use Rattle.std.specs.Prelude.{filter, filter_map, not, zip}
use Rattle.std.specs.List.{cons_option}
use Rattle.cc_definitions.specs.Definitions.{numbers_below}
use Rattle.cc_linked_programs.proofs.ThingLists.{order-in}
use Rattle.cc_order.specs.Order.{inserted, in_order}
use Rattle.cc_structures.proofs.Elements.{In, in-cases}
use Rattle.cc_structures.proofs.OrderLemmas.{in-filter}

abbrev pub Apart : List ℕ → Type 0
Apart [] = Unit {0}
Apart (k ∷ ks) = (In k ks → ⊥) × Apart ks

pub apart-append : (xs ys : List ℕ) → Apart xs → Apart ys → ((k : ℕ) → In k xs → In k ys → ⊥) → Apart (xs ++ ys)
apart-append [] ys a b h = b
apart-append (x ∷ xs) ys a b h = (λ i. by (in-cases xs ys x i), apart-append xs ys a.1 b (λ k i j. h k (inr i) j))
  where
    by : In x xs ⊎ In x ys → ⊥
    by (inl i) = a.0 i
    by (inr j) = h x (inl refl) j

pub apart-filter : (p : ℕ → Bool) (xs : List ℕ) → Apart xs → Apart (filter p xs)
apart-filter p [] a = tt
apart-filter p (x ∷ xs) a = by (p x) (apart-filter p xs a.1)
  where
    by : (b : Bool) → Apart (filter p xs) → Apart (cond b (x ∷ filter p xs) (filter p xs))
    by true rest = (λ i. a.0 (in-filter p xs x i), rest)
    by false rest = rest

pub below : (n k : ℕ) → In k (numbers_below n) → k < n
below zero k h = absurd h
below (suc n) k h = by (in-cases (numbers_below n) (n ∷ []) k h) (below n k)
  where
    by : In k (numbers_below n) ⊎ In k (n ∷ []) → (In k (numbers_below n) → k < n) → k < suc n
    by (inl i) rest = let l = rest i in omega (arith, l)
    by (inr (inl e)) rest = omega (arith, e)
    by (inr (inr i)) rest = absurd i

not-last : (n k : ℕ) → In k (numbers_below n) → In k (n ∷ []) → ⊥
not-last n k i (inl e) = let l = below n k i in absurd (omega (arith, l, e))
not-last n k i (inr j) = absurd j

pub apart-below : (n : ℕ) → Apart (numbers_below n)
apart-below zero = tt
apart-below (suc n) = apart-append (numbers_below n) (n ∷ []) (apart-below n) ((λ i. i), tt) (not-last n)

pub length-below : (n : ℕ) → length (numbers_below n) ≡ n
length-below zero = refl
length-below (suc n) = let e = length-below n in let a = length-append (numbers_below n) (n ∷ []) in omega (arith, e, a)

-- ---- in an order

module _ {X : Type 0} (before : X → X → Bool) where
  inserted-in : (x : X) (xs : List X) (z : X) → In z (inserted before x xs) → (x ≡ z) ⊎ In z xs
  inserted-in x [] z (inl e) = inl e
  inserted-in x [] z (inr h) = absurd h
  inserted-in x (y ∷ ys) z h = by (before y x) h (inserted-in x ys z)
    where
      more : (x ≡ z) ⊎ In z ys → (x ≡ z) ⊎ In z (y ∷ ys)
      more (inl e) = inl e
      more (inr j) = inr (inr j)

      by : (b : Bool) → In z (cond b (y ∷ inserted before x ys) (x ∷ y ∷ ys)) → (In z (inserted before x ys) → (x ≡ z) ⊎ In z ys) → (x ≡ z) ⊎ In z (y ∷ ys)
      by true (inl s) rest = inr (inl s)
      by true (inr i) rest = more (rest i)
      by false (inl e) rest = inl e
      by false (inr i) rest = inr i

  length-inserted : (x : X) (xs : List X) → length (inserted before x xs) ≡ suc (length xs)
  length-inserted x [] = refl
  length-inserted x (y ∷ ys) = by (before y x) (length-inserted x ys)
    where
      by : (b : Bool) → length (inserted before x ys) ≡ suc (length ys) → length (cond b (y ∷ inserted before x ys) (x ∷ y ∷ ys)) ≡ suc (suc (length ys))
      by true rest = ap suc rest
      by false rest = refl

  pub length-order : (xs : List X) → length (in_order before xs) ≡ length xs
  unfolding in_order
  length-order [] = refl
  length-order (x ∷ xs) = length-inserted x (in_order before xs) ∙ ap suc (length-order xs)

module _ (before : ℕ → ℕ → Bool) where
  apart-inserted : (x : ℕ) (xs : List ℕ) → (In x xs → ⊥) → Apart xs → Apart (inserted before x xs)
  apart-inserted x [] n a = ((λ i. i), tt)
  apart-inserted x (y ∷ ys) n a = by (before y x) (apart-inserted x ys (λ i. n (inr i)) a.1)
    where
      other : (x ≡ y) ⊎ In y ys → ⊥
      other (inl e) = n (inl (sym e))
      other (inr i) = a.0 i

      by : (b : Bool) → Apart (inserted before x ys) → Apart (cond b (y ∷ inserted before x ys) (x ∷ y ∷ ys))
      by true rest = (λ i. other (inserted-in before x ys y i), rest)
      by false rest = (n, a)

  pub apart-order : (xs : List ℕ) → Apart xs → Apart (in_order before xs)
  unfolding in_order
  apart-order [] a = tt
  apart-order (x ∷ xs) a = apart-inserted x (in_order before xs) (λ i. a.0 (order-in before xs x i)) (apart-order xs a.1)

-- ---- how long lists are

pub length-filter : {X : Type 0} (p : X → Bool) (xs : List X) → length (filter p xs) ≤ length xs
length-filter p [] = omega arith
length-filter {X} p (x ∷ xs) = by (p x) (length-filter p xs)
  where
    by : (b : Bool) → length (filter p xs) ≤ length xs → length (cond b (x ∷ filter p xs) (filter p xs)) ≤ suc (length xs)
    by true h = omega (arith, h)
    by false h = omega (arith, h)

pub length-both : {X : Type 0} (p : X → Bool) (xs : List X) → length (filter (λ x. not (p x)) xs) + length (filter p xs) ≡ length xs
length-both p [] = refl
length-both {X} p (x ∷ xs) = by (p x) (length-both p xs)
  where
    by : (b : Bool) → length (filter (λ x. not (p x)) xs) + length (filter p xs) ≡ length xs →
        length (cond (not b) (x ∷ filter (λ x. not (p x)) xs) (filter (λ x. not (p x)) xs)) + length (cond b (x ∷ filter p xs) (filter p xs)) ≡ suc (length xs)
    by true h = omega (arith, h)
    by false h = omega (arith, h)

pub length-filter_map : {X Y : Type 0} (f : X → Option Y) (xs : List X) → length (filter_map f xs) ≤ length xs
length-filter_map f [] = omega arith
length-filter_map {X} {Y} f (x ∷ xs) = by (f x) (length-filter_map f xs)
  where
    by : (o : Option Y) → length (filter_map f xs) ≤ length xs → length (cons_option o (filter_map f xs)) ≤ suc (length xs)
    by None h = omega (arith, h)
    by (Some y) h = omega (arith, h)

pub length-zip : {X Y : Type 0} (xs : List X) (ys : List Y) → length (zip xs ys) ≤ length ys
length-zip [] ys = omega arith
length-zip (x ∷ xs) [] = omega arith
length-zip (x ∷ xs) (y ∷ ys) = let h = length-zip xs ys in omega (arith, h)
