-- Numbers from one on, those of what passes a test, and what a function gives at each.
use Rattle.std.proofs.Common.{◌≡◌, ◌∙◌, inl, inr, ◌+◌, ◌<◌, ◌≤◌, ℕ, zero, suc, Bool, true, false, cond, List, [], ◌∷◌, ◌++◌, length, map, Option, Some, slice_get, filter, refl, ap, sym, arith}
use Rattle.std.specs.Prelude.{filter_map, nat_eq}
use Rattle.std.specs.List.{position_or_len}
use Rattle.std.proofs.lemmas.Bool.{eq-eqb, ne_eqb}
use Rattle.cc_definitions.specs.Definitions.{numbers_below}
use Rattle.cc_names.specs.Names.{numbers_from}
use Rattle.cc_structures.proofs.Elements.{In}

numbers-end : (a n z : ℕ) → z ≡ a + n → numbers_from a (suc n) ≡ numbers_from a n ++ z ∷ []
numbers-end a zero z h = let s : a ≡ z = omega (arith, h) in ap (λ (k : ℕ). k ∷ []) s
numbers-end a (suc n) z h = ap (λ (ks : List ℕ). a ∷ ks) (numbers-end (suc a) n z (omega (arith, h)))

pub below-are : (n : ℕ) → numbers_below n ≡ numbers_from 0 n
below-are zero = refl
below-are (suc n) = ap (λ (ks : List ℕ). ks ++ n ∷ []) (below-are n) ∙ sym (numbers-end 0 n n (omega arith))

pub numbers-joined : (a m n b z : ℕ) → b ≡ a + m → z ≡ m + n → numbers_from a m ++ numbers_from b n ≡ numbers_from a z
numbers-joined a zero n b z h l =
    let s : b ≡ a = omega (arith, h) in
    let t : n ≡ z = omega (arith, l) in
    ap (λ (c : ℕ). numbers_from c n) s ∙ ap (numbers_from a) t
numbers-joined a (suc m) n b zero h l = absurd (omega (arith, l))
numbers-joined a (suc m) n b (suc z) h l = ap (λ (ks : List ℕ). a ∷ ks) (numbers-joined (suc a) m n b z (omega (arith, h)) (omega (arith, l)))

pub length-numbers : (a n : ℕ) → length (numbers_from a n) ≡ n
length-numbers a zero = refl
length-numbers a (suc n) = ap suc (length-numbers (suc a) n)

pub get-number : (a n i k : ℕ) → i < n → k ≡ a + i → slice_get (numbers_from a n) i ≡ Some k
get-number a zero i k l h = absurd (omega (arith, l))
get-number a (suc n) zero k l h = let s : a ≡ k = omega (arith, h) in ap (λ (j : ℕ). Some j) s
get-number a (suc n) (suc i) k l h = get-number (suc a) n i k (omega (arith, l)) (omega (arith, h))

pub in-numbers : (a n k : ℕ) → In k (numbers_from a n) → (a ≤ k) × (k < a + n)
in-numbers a zero k h = absurd h
in-numbers a (suc n) k (inl e) = (omega (arith, e), omega (arith, e))
in-numbers a (suc n) k (inr h) = let r = in-numbers (suc a) n k h in let p = r.0 in let q = r.1 in (omega (arith, p), omega (arith, q))

pub place-number : (a n j k : ℕ) → k ≡ a + j → j < n → position_or_len (nat_eq k) (numbers_from a n) ≡ j
place-number a zero j k h l = absurd (omega (arith, l))
place-number a (suc n) zero k h l = rw (eq-eqb k a (omega (arith, h))) refl
place-number a (suc n) (suc j) k h l =
    let apart : k ≡ a → ⊥ = λ e. omega (arith, h, e) in
    rw (ne_eqb k a apart, place-number (suc a) n j k (omega (arith, h)) (omega (arith, l))) (omega arith)

-- ---- those that pass

module _ {X : Type 0} (passes : X → Bool) where
  abbrev pub selected : ℕ → List X → List ℕ
  selected i [] = []
  selected i (x ∷ xs) = cond (passes x) (i ∷ selected (suc i) xs) (selected (suc i) xs)

  pub selected-append : (i j : ℕ) (xs ys : List X) → j ≡ i + length xs → selected i (xs ++ ys) ≡ selected i xs ++ selected j ys
  selected-append i j [] ys h = let s : i ≡ j = omega (arith, h) in ap (λ (k : ℕ). selected k ys) s
  selected-append i j (x ∷ xs) ys h = by (passes x) (selected-append (suc i) j xs ys (omega (arith, h)))
    where
      by : (b : Bool) → selected (suc i) (xs ++ ys) ≡ selected (suc i) xs ++ selected j ys →
          cond b (i ∷ selected (suc i) (xs ++ ys)) (selected (suc i) (xs ++ ys)) ≡ cond b (i ∷ selected (suc i) xs) (selected (suc i) xs) ++ selected j ys
      by true rest = ap (λ (ks : List ℕ). i ∷ ks) rest
      by false rest = rest

  pub selected-all : (i : ℕ) (xs : List X) → ((x : X) → In x xs → passes x ≡ true) → selected i xs ≡ numbers_from i (length xs)
  selected-all i [] h = refl
  selected-all i (x ∷ xs) h = rw (h x (inl refl), selected-all (suc i) xs (λ y k. h y (inr k))) refl

  pub selected-none : (i : ℕ) (xs : List X) → ((x : X) → In x xs → passes x ≡ false) → selected i xs ≡ []
  selected-none i [] h = refl
  selected-none i (x ∷ xs) h = rw (h x (inl refl), selected-none (suc i) xs (λ y k. h y (inr k))) refl

  -- numbers that pass where the elements at them do
  pub filter-selected : (f : ℕ → Bool) (i : ℕ) (xs : List X) → ((j k : ℕ) (x : X) → k ≡ i + j → slice_get xs j ≡ Some x → f k ≡ passes x) → filter f (numbers_from i (length xs)) ≡ selected i xs
  filter-selected f i [] h = refl
  filter-selected f i (x ∷ xs) h = rw (h 0 i x (omega arith) refl, filter-selected f (suc i) xs (λ j k y a g. h (suc j) k y (omega (arith, a)) g)) refl

-- ---- what a function gives at each

pub listed : {Y : Type 0} (g : ℕ → Option Y) (a : ℕ) (ys : List Y) → ((j k : ℕ) (y : Y) → k ≡ a + j → slice_get ys j ≡ Some y → g k ≡ Some y) → filter_map g (numbers_from a (length ys)) ≡ ys
listed g a [] h = refl
listed g a (y ∷ ys) h = rw (h 0 a y (omega arith) refl, listed g (suc a) ys (λ j k z e i. h (suc j) k z (omega (arith, e)) i)) refl

pub mapped : {Y Z : Type 0} (g : ℕ → Z) (f : Y → Z) (a : ℕ) (ys : List Y) → ((j k : ℕ) (y : Y) → k ≡ a + j → slice_get ys j ≡ Some y → g k ≡ f y) → map g (numbers_from a (length ys)) ≡ map f ys
mapped g f a [] h = refl
mapped g f a (y ∷ ys) h = rw (h 0 a y (omega arith) refl, mapped g f (suc a) ys (λ j k z e i. h (suc j) k z (omega (arith, e)) i)) refl
