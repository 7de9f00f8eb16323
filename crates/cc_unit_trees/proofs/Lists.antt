-- What holds of the elements of a list where it is tested of all.
use Rattle.std.proofs.Common.{◌≡◌, ℕ, zero, suc, Bool, true, List, [], ◌∷◌, take, Some, refl, subst, slice_get, All}
use Rattle.std.specs.List.{list_all}
use Rattle.std.proofs.lemmas.List.Elements.{All-head, All-tail}
use Rattle.cc_lex.proofs.Booleans.{and-true}
use Rattle.cc_program.proofs.Each.{Each}

module _ {A : Type 0} where
  pub all-at : (test : A → Bool) (xs : List A) (i : ℕ) (x : A) → slice_get xs i ≡ Some x → list_all test xs ≡ true → test x ≡ true
  all-at test [] i x e h = absurd (cc)
  all-at test (y ∷ ys) zero x e h = let k : y ≡ x = cc in subst (λ z. test z ≡ true) k (and-true (test y) (list_all test ys) h).0
  all-at test (y ∷ ys) (suc i) x e h = all-at test ys i x e (and-true (test y) (list_all test ys) h).1

  pub All-at : (P : A → Type 0) (xs : List A) (i : ℕ) (x : A) → slice_get xs i ≡ Some x → All P xs → P x
  All-at P [] i x e h = absurd (cc)
  All-at P (y ∷ ys) zero x e h = let k : y ≡ x = cc in subst P k (All-head P y ys h)
  All-at P (y ∷ ys) (suc i) x e h = All-at P ys i x e (All-tail P y ys h)

  -- what holds of each place holds of each element
  pub each-from : (P : A → Type 0) (xs : List A) → ((i : ℕ) (x : A) → slice_get xs i ≡ Some x → P x) → Each P xs
  each-from P [] h = tt
  each-from P (x ∷ xs) h = (h 0 x refl, each-from P xs (λ i y e. h (suc i) y e))

  -- a front of a list has the same elements
  pub taken-at : (n : ℕ) (xs : List A) (i : ℕ) (x : A) → slice_get (take n xs) i ≡ Some x → slice_get xs i ≡ Some x
  taken-at zero [] i x e = e
  taken-at (suc n) [] i x e = e
  taken-at zero (y ∷ ys) i x e = absurd (cc)
  taken-at (suc n) (y ∷ ys) zero x e = e
  taken-at (suc n) (y ∷ ys) (suc i) x e = taken-at n ys i x e
