-- What is so of each thing of a list, as far as a loop over the list has come.
use Rattle.std.proofs.Common.{arith, ◌≡◌, ◌⊎◌, inl, inr, ◌<◌, ◌≤◌, ◌+◌, ℕ, List, length, get_or, Some, slice_get, sym, ◌∙◌, ap, subst}
use Rattle.std.proofs.lemmas.Option.{same_Some, slice_get-get_or, slice_get_within}
use Rattle.cc_state_holds.specs.Parts.{Each}

abbrev pub EachTo : {A : Type 0} → (ℕ → A → Type 0) → List A → ℕ → Type 0
EachTo {A = A} Is xs m = (n : ℕ) (x : A) → n < m → slice_get xs n ≡ Some x → Is n x

pub each_none : {A : Type 0} (Is : ℕ → A → Type 0) (xs : List A) → EachTo Is xs 0
each_none Is xs n x l e = absurd (omega (arith, l))

before_or_last : (n m : ℕ) → n < m + 1 → (n < m) ⊎ (n ≡ m)
before_or_last n m l = grind (arith, l)

pub each_more : {A : Type 0} (Is : ℕ → A → Type 0) (xs : List A) (m : ℕ) (y : A) → slice_get xs m ≡ Some y → EachTo Is xs m → Is m y → EachTo Is xs (m + 1)
each_more {A = A} Is xs m y at h is n x l e = by (before_or_last n m l)
  where
    by : (n < m) ⊎ (n ≡ m) → Is n x
    by (inl k) = h n x k e
    by (inr k) = subst (λ (j : ℕ). Is j x) (sym k) (subst (λ (z : A). Is m z) (same_Some y x (sym at ∙ ap (slice_get xs) (sym k) ∙ e)) is)

pub each_all : {A : Type 0} (Is : ℕ → A → Type 0) (xs : List A) (m : ℕ) → length xs ≤ m → EachTo Is xs m → Each Is xs
each_all Is xs m l h n x e = let k = slice_get_within xs n x e in h n x (omega (arith, l, k)) e

pub at_place : {A : Type 0} (xs : List A) (n : ℕ) (x : A) → n < length xs → x ≡ get_or xs n x → slice_get xs n ≡ Some x
at_place xs n x l e = slice_get-get_or xs n x l ∙ ap Some (sym e)
