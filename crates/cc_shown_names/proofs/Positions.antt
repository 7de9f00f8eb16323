-- The position of the first that passes a test, where one more stands behind a list.
use Rattle.std.proofs.Common.{arith, ◌≡◌, ℕ, ◌+◌, Bool, true, false, cond, List, [], ◌∷◌, ◌++◌, length, position, Option, Some, None, ap, sym, ◌∙◌}
use Rattle.std.proofs.lemmas.Iterator.Adapters.{position_from-zero}
use Rattle.std.specs.List.{position_from}

module _ {A : Type 0} (test : A → Bool) where
  some-by : (b : Bool) (i k : ℕ) (o r : Option ℕ) → (o ≡ Some k → r ≡ Some k) → cond b (Some i) o ≡ Some k → cond b (Some i) r ≡ Some k
  some-by true i k o r h e = e
  some-by false i k o r h e = h e

  some-from : (i : ℕ) (xs ys : List A) (k : ℕ) → position_from test i xs ≡ Some k → position_from test i (xs ++ ys) ≡ Some k
  some-from i [] ys k h = absurd (cc)
  some-from i (x ∷ xs) ys k h = some-by (test x) i k (position_from test (i + 1) xs) (position_from test (i + 1) (xs ++ ys)) (some-from (i + 1) xs ys k) h

  none-by : (b : Bool) (i : ℕ) (o r q : Option ℕ) → (o ≡ None → r ≡ q) → cond b (Some i) o ≡ None → cond b (Some i) r ≡ q
  none-by true i o r q h e = absurd (cc)
  none-by false i o r q h e = h e

  new-from : (i : ℕ) (xs : List A) (y : A) → position_from test i xs ≡ None → test y ≡ true → position_from test i (xs ++ y ∷ []) ≡ Some (i + length xs)
  new-from i [] y h t = let e : i ≡ i + length {A = A} [] = omega arith in ap (λ b. cond b (Some i) None) t ∙ ap (λ k. Some k) e
  new-from i (x ∷ xs) y h t =
      let e : i + 1 + length xs ≡ i + length (x ∷ xs) = omega arith in
      none-by (test x) i (position_from test (i + 1) xs) (position_from test (i + 1) (xs ++ y ∷ [])) (Some (i + length (x ∷ xs))) (λ g. new-from (i + 1) xs y g t ∙ ap (λ k. Some k) e) h

  none-from : (i : ℕ) (xs : List A) (y : A) → position_from test i xs ≡ None → test y ≡ false → position_from test i (xs ++ y ∷ []) ≡ None
  none-from i [] y h t = ap (λ b. cond b (Some i) None) t
  none-from i (x ∷ xs) y h t = none-by (test x) i (position_from test (i + 1) xs) (position_from test (i + 1) (xs ++ y ∷ [])) None (λ g. none-from (i + 1) xs y g t) h

  from : (xs : List A) → position test xs ≡ position_from test 0 xs
  from xs = position_from-zero test xs

  pub position-stays : (xs ys : List A) (k : ℕ) → position test xs ≡ Some k → position test (xs ++ ys) ≡ Some k
  position-stays xs ys k h = from (xs ++ ys) ∙ some-from 0 xs ys k (sym (from xs) ∙ h)

  pub position-new : (xs : List A) (y : A) → position test xs ≡ None → test y ≡ true → position test (xs ++ y ∷ []) ≡ Some (length xs)
  position-new xs y h t = let e : 0 + length xs ≡ length xs = omega arith in from (xs ++ y ∷ []) ∙ new-from 0 xs y (sym (from xs) ∙ h) t ∙ ap (λ k. Some k) e

  pub position-none : (xs : List A) (y : A) → position test xs ≡ None → test y ≡ false → position test (xs ++ y ∷ []) ≡ None
  position-none xs y h t = from (xs ++ y ∷ []) ∙ none-from 0 xs y (sym (from xs) ∙ h) t
