-- Elements of lists: what holds of each, which numbers are apart, and what locals with new names keep.
use Rattle.std.proofs.Common.{◌≡◌, ◌⊎◌, inl, inr, ◌<◌, ℕ, zero, suc, Bool, true, false, ◌&&◌, cond, List, [], ◌∷◌, ◌++◌, length, filter, get_or, Some, slice_get, refl, sym, subst, arith}
use Rattle.std.specs.List.{All, list_all, flat_map}
use Rattle.cc_definitions.specs.Definitions.{numbers_below}
use Rattle.cc_program.proofs.Each.{Each}
use Rattle.cc_structures.proofs.Elements.{In, in-left, in-right, in-cases}
use Rattle.cc_structures.proofs.OrderLemmas.{in-filter}

pub both : (a b : Bool) → a ≡ true → b ≡ true → a && b ≡ true
both a b h k = rw (h, k) refl

-- ---- what holds of each

pub each-in : {X : Type 0} (P : X → Type 0) (xs : List X) → ((x : X) → In x xs → P x) → Each P xs
each-in P [] h = tt
each-in P (x ∷ xs) h = (h x (inl refl), each-in P xs (λ y i. h y (inr i)))

pub in-get : {X : Type 0} (xs : List X) (i : ℕ) (d : X) → i < length xs → In (get_or xs i d) xs
in-get [] i d low = absurd (omega (arith, low))
in-get (x ∷ xs) zero d low = inl refl
in-get (x ∷ xs) (suc i) d low = inr (in-get xs i d (omega (arith, low)))

pub all-in : {X : Type 0} (P : X → Type 0) (xs : List X) → ((x : X) → In x xs → P x) → All P xs
all-in P xs h i d low = h (get_or xs i d) (in-get xs i d low)

pub list_all-in : {X : Type 0} (p : X → Bool) (xs : List X) → ((x : X) → In x xs → p x ≡ true) → list_all p xs ≡ true
list_all-in p [] h = refl
list_all-in p (x ∷ xs) h = both (p x) (list_all p xs) (h x (inl refl)) (list_all-in p xs (λ y i. h y (inr i)))

pub in-flat : {X Y : Type 0} (f : X → List Y) (xs : List X) (i : ℕ) (x : X) (y : Y) → slice_get xs i ≡ Some x → In y (f x) → In y (flat_map f xs)
in-flat f [] i x y e h = absurd (cc)
in-flat {X} {Y} f (z ∷ xs) zero x y e h = let s : z ≡ x = cc e in in-left (f z) (flat_map f xs) y (subst (λ (u : X). In y (f u)) (sym s) h)
in-flat f (z ∷ xs) (suc i) x y e h = in-right (f z) (flat_map f xs) y (in-flat f xs i x y e h)

-- ---- numbers that are apart

abbrev pub Apart : List ℕ → Type 0
Apart [] = Unit {0}
Apart (k ∷ ks) = (In k ks → ⊥) × Apart ks

apart-with : (ks : List ℕ) (n : ℕ) → Apart ks → (In n ks → ⊥) → Apart (ks ++ n ∷ [])
apart-with [] n a h = (λ i. i, tt)
apart-with (k ∷ ks) n a h = (λ i. by (in-cases ks (n ∷ []) k i), apart-with ks n a.1 (λ i. h (inr i)))
  where
    by : In k ks ⊎ In k (n ∷ []) → ⊥
    by (inl i) = a.0 i
    by (inr (inl e)) = h (inl (sym e))
    by (inr (inr i)) = i

pub below-lower : (n k : ℕ) → In k (numbers_below n) → k < n
below-lower zero k h = absurd h
below-lower (suc n) k h = by (in-cases (numbers_below n) (n ∷ []) k h) (below-lower n k)
  where
    by : In k (numbers_below n) ⊎ In k (n ∷ []) → (In k (numbers_below n) → k < n) → k < suc n
    by (inl i) rest = let low = rest i in omega (arith, low)
    by (inr (inl e)) rest = omega (arith, e)
    by (inr (inr i)) rest = absurd i

pub below-apart : (n : ℕ) → Apart (numbers_below n)
below-apart zero = tt
below-apart (suc n) = apart-with (numbers_below n) n (below-apart n) (λ i. let low = below-lower n n i in absurd (omega (arith, low)))

pub filter-apart : (p : ℕ → Bool) (ks : List ℕ) → Apart ks → Apart (filter p ks)
filter-apart p [] a = tt
filter-apart p (k ∷ ks) a = by (p k) (filter-apart p ks a.1)
  where
    by : (b : Bool) → Apart (filter p ks) → Apart (cond b (k ∷ filter p ks) (filter p ks))
    by true rest = (λ i. a.0 (in-filter p ks k i), rest)
    by false rest = rest
