-- Lists with one element of another list.
use Rattle.std.proofs.Common.{arith, ◌≡◌, ◌⊎◌, inl, inr, ℕ, zero, suc, List, [], ◌∷◌, length, Option, Some, None, slice_get, refl, ap, subst}
use Rattle.std.specs.List.{AllZip}
use Rattle.std.proofs.lemmas.Option.{same_Some, none-some}
use Rattle.cc_rules_again.proofs.Lists.{same_or}

-- the second list, with the n-th element of the first
abbrev pub mixed : {A : Type 0} → ℕ → List A → List A → List A
mixed n [] xs = xs
mixed n (y ∷ ys) [] = []
mixed zero (y ∷ ys) (x ∷ xs) = y ∷ xs
mixed (suc n) (y ∷ ys) (x ∷ xs) = x ∷ mixed n ys xs

abbrev pub picked : {A : Type 0} → Option ℕ → List A → List A → List A
picked None ys xs = xs
picked (Some n) ys xs = mixed n ys xs

length_mixed : {A : Type 0} (n : ℕ) (ys xs : List A) → length (mixed n ys xs) ≡ length xs
length_mixed n [] xs = refl
length_mixed n (y ∷ ys) [] = refl
length_mixed zero (y ∷ ys) (x ∷ xs) = refl
length_mixed (suc n) (y ∷ ys) (x ∷ xs) = ap suc (length_mixed n ys xs)

pub length_picked : {A : Type 0} (o : Option ℕ) (ys xs : List A) → length (picked o ys xs) ≡ length xs
length_picked None ys xs = refl
length_picked (Some n) ys xs = length_mixed n ys xs

there : {A : Type 0} (n : ℕ) (ys xs : List A) → length ys ≡ length xs → slice_get (mixed n ys xs) n ≡ slice_get ys n
there n [] [] l = refl
there n [] (x ∷ xs) l = absurd (let h : zero ≡ suc (length xs) = l in omega (arith, h))
there n (y ∷ ys) [] l = absurd (let h : suc (length ys) ≡ zero = l in omega (arith, h))
there zero (y ∷ ys) (x ∷ xs) l = refl
there (suc n) (y ∷ ys) (x ∷ xs) l = there n ys xs (let h : suc (length ys) ≡ suc (length xs) = l in omega (arith, h))

other : {A : Type 0} (n k : ℕ) (ys xs : List A) → (n ≡ k → ⊥) → slice_get (mixed n ys xs) k ≡ slice_get xs k
other n k [] xs differs = refl
other n k (y ∷ ys) [] differs = refl
other zero zero (y ∷ ys) (x ∷ xs) differs = absurd (differs refl)
other zero (suc k) (y ∷ ys) (x ∷ xs) differs = refl
other (suc n) zero (y ∷ ys) (x ∷ xs) differs = refl
other (suc n) (suc k) (y ∷ ys) (x ∷ xs) differs = other n k ys xs (λ e. differs (ap suc e))

pub picked_there : {A : Type 0} (o : Option ℕ) (k : ℕ) (ys xs : List A) → o ≡ Some k → length ys ≡ length xs → slice_get (picked o ys xs) k ≡ slice_get ys k
picked_there None k ys xs e l = absurd (none-some k e)
picked_there (Some n) k ys xs e l = subst (λ (m : ℕ). slice_get (mixed n ys xs) m ≡ slice_get ys m) (same_Some n k e) (there n ys xs l)

pub picked_other : {A : Type 0} (o : Option ℕ) (k : ℕ) (ys xs : List A) → (o ≡ Some k → ⊥) → slice_get (picked o ys xs) k ≡ slice_get xs k
picked_other None k ys xs differs = refl
picked_other (Some n) k ys xs differs = other n k ys xs (λ e. differs (ap Some e))

pub is_picked : (o : Option ℕ) (k : ℕ) → (o ≡ Some k) ⊎ (o ≡ Some k → ⊥)
is_picked None k = inr (λ e. none-some k e)
is_picked (Some n) k = elim (same_or n k) [ inl e ↦ inl (ap Some e) | inr differs ↦ inr (λ e. differs (same_Some n k e)) ]

-- ---- lists that are compared place by place

module _ {A : Type 0} (R : A → A → Type 0) where
  mixed_above : ((x y : A) → R x y → R x x) → (n : ℕ) (ys xs : List A) → AllZip R ys xs → AllZip R ys (mixed n ys xs)
  mixed_above self n [] xs h = h
  mixed_above self n (y ∷ ys) [] h = h
  mixed_above self zero (y ∷ ys) (x ∷ xs) h = (self y x h.0, h.1)
  mixed_above self (suc n) (y ∷ ys) (x ∷ xs) h = (h.0, mixed_above self n ys xs h.1)

  pub picked_above : ((x y : A) → R x y → R x x) → (o : Option ℕ) (ys xs : List A) → AllZip R ys xs → AllZip R ys (picked o ys xs)
  picked_above self None ys xs h = h
  picked_above self (Some n) ys xs h = mixed_above self n ys xs h

  own : ((x y : A) → R x y → R y y) → (ys xs : List A) → AllZip R ys xs → AllZip R xs xs
  own self [] [] h = tt
  own self [] (x ∷ xs) h = absurd h
  own self (y ∷ ys) [] h = absurd h
  own self (y ∷ ys) (x ∷ xs) h = (self y x h.0, own self ys xs h.1)

  mixed_below : ((x y : A) → R x y → R y y) → (n : ℕ) (ys xs : List A) → AllZip R ys xs → AllZip R (mixed n ys xs) xs
  mixed_below self n [] xs h = own self [] xs h
  mixed_below self n (y ∷ ys) [] h = absurd h
  mixed_below self zero (y ∷ ys) (x ∷ xs) h = (h.0, own self ys xs h.1)
  mixed_below self (suc n) (y ∷ ys) (x ∷ xs) h = (self y x h.0, mixed_below self n ys xs h.1)

  pub picked_below : ((x y : A) → R x y → R y y) → (o : Option ℕ) (ys xs : List A) → AllZip R ys xs → AllZip R (picked o ys xs) xs
  picked_below self None ys xs h = own self ys xs h
  picked_below self (Some n) ys xs h = mixed_below self n ys xs h
