-- How many of the elements before one pass a test: it grows at each that passes, so it tells those apart, and it is where they stand
-- among them.
use Rattle.std.proofs.Common.{◌≡◌, ◌≤◌, ◌<◌, ◌+◌, ◌∙◌, ◌⊎◌, inl, inr, ℕ, zero, suc, Bool, true, false, cond, List, [], ◌∷◌, length, Some, None, slice_get, take, refl, ap, sym, subst, arith}
use Rattle.std.specs.List.{filter, enumerate_from}
use Rattle.std.proofs.lemmas.Bool.{cases_lt}

module _ {X : Type 0} (passes : X → Bool) where
  abbrev pub rank : List X → ℕ → ℕ
  rank xs j = length (filter passes (take j xs))

  -- an element more in front
  abbrev add : Bool → ℕ → ℕ
  add true n = suc n
  add false n = n

  in_front : (x : X) (xs : List X) → length (filter passes (x ∷ xs)) ≡ add (passes x) (length (filter passes xs))
  in_front x xs = by (passes x) refl
    where
      by : (b : Bool) → passes x ≡ b → length (filter passes (x ∷ xs)) ≡ add b (length (filter passes xs))
      by true t = rw t refl
      by false t = rw t refl

  no_less : (b : Bool) (m n : ℕ) → m ≤ n → add b m ≤ add b n
  no_less true m n l = omega arith
  no_less false m n l = l

  less : (b : Bool) (m n : ℕ) → m < n → add b m < add b n
  less true m n l = omega arith
  less false m n l = l

  -- ---- growing

  pub grows : (xs : List X) (j : ℕ) (x : X) → slice_get xs j ≡ Some x → passes x ≡ true → (k : ℕ) → j < k → rank xs j < rank xs k
  grows [] j x s t k l = let f : None ≡ Some x = s in absurd (cc)
  grows (y ∷ ys) j x s t zero l = absurd (omega arith)
  grows (y ∷ ys) zero x s t (suc k) l =
      let f : Some y ≡ Some x = s in
      let e : passes y ≡ true = cc in
      let h : rank (y ∷ ys) (suc k) ≡ add true (rank ys k) = in_front y (take k ys) ∙ ap (λ (b : Bool). add b (rank ys k)) e in
      subst (λ (n : ℕ). 0 < n) (sym h) (omega arith)
  grows (y ∷ ys) (suc j) x s t (suc k) l =
      let h = less (passes y) (rank ys j) (rank ys k) (grows ys j x s t k (omega arith)) in
      subst (λ (n : ℕ). n < rank (y ∷ ys) (suc k)) (sym (in_front y (take j ys))) (subst (λ (n : ℕ). add (passes y) (rank ys j) < n) (sym (in_front y (take k ys))) h)

  pub below : (xs : List X) (j : ℕ) (x : X) → slice_get xs j ≡ Some x → passes x ≡ true → rank xs j < length (filter passes xs)
  below [] j x s t = let f : None ≡ Some x = s in absurd (cc)
  below (y ∷ ys) zero x s t =
      let f : Some y ≡ Some x = s in
      let e : passes y ≡ true = cc in
      let h : length (filter passes (y ∷ ys)) ≡ add true (length (filter passes ys)) = in_front y ys ∙ ap (λ (b : Bool). add b (length (filter passes ys))) e in
      subst (λ (n : ℕ). 0 < n) (sym h) (omega arith)
  below (y ∷ ys) (suc j) x s t =
      let h = less (passes y) (rank ys j) (length (filter passes ys)) (below ys j x s t) in
      subst (λ (n : ℕ). n < length (filter passes (y ∷ ys))) (sym (in_front y (take j ys))) (subst (λ (n : ℕ). add (passes y) (rank ys j) < n) (sym (in_front y ys)) h)

  -- those that pass are told apart
  pub one : (xs : List X) (j k : ℕ) (x y : X) → slice_get xs j ≡ Some x → slice_get xs k ≡ Some y → passes x ≡ true → passes y ≡ true → rank xs j ≡ rank xs k → j ≡ k
  one xs j k x y s r t u e = by (cases_lt j k) (cases_lt k j)
    where
      by : (j < k) ⊎ (k ≤ j) → (k < j) ⊎ (j ≤ k) → j ≡ k
      by (inl l) m = let h = grows xs j x s t k l in absurd (omega (arith, e, h))
      by (inr m) (inl l) = let h = grows xs k y r u j l in absurd (omega (arith, e, h))
      by (inr m) (inr n) = omega arith

  -- ---- where they stand among those that pass, each with its number

  abbrev pub numbered : ℕ → List X → List (ℕ × X)
  numbered n xs = filter (λ (y : ℕ × X). passes y.1) (enumerate_from n xs)

  at_step : (n j i : ℕ) (x y : X) (rest : List (ℕ × X)) (b : Bool) → slice_get rest i ≡ Some (n + 1 + j, x) → slice_get (cond b ((n, y) ∷ rest) rest) (add b i) ≡ Some (n + suc j, x)
  at_step n j i x y rest true h = let e : n + 1 + j ≡ n + suc j = omega arith in h ∙ ap (λ (m : ℕ). Some (m, x)) e
  at_step n j i x y rest false h = let e : n + 1 + j ≡ n + suc j = omega arith in h ∙ ap (λ (m : ℕ). Some (m, x)) e

  pub at_rank : (n : ℕ) (xs : List X) (j : ℕ) (x : X) → slice_get xs j ≡ Some x → passes x ≡ true → slice_get (numbered n xs) (rank xs j) ≡ Some (n + j, x)
  at_rank n [] j x s t = let f : None ≡ Some x = s in absurd (cc)
  at_rank n (y ∷ ys) zero x s t =
      let f : Some y ≡ Some x = s in
      let k : y ≡ x = cc in
      let e : passes y ≡ true = ap passes k ∙ t in
      let m : n ≡ n + 0 = omega arith in
      ap (λ (b : Bool). slice_get (cond b ((n, y) ∷ numbered (n + 1) ys) (numbered (n + 1) ys)) 0) e ∙ ap (λ (z : X). Some (n, z)) k ∙ ap (λ (i : ℕ). Some (i, x)) m
  at_rank n (y ∷ ys) (suc j) x s t =
      subst (λ (i : ℕ). slice_get (numbered n (y ∷ ys)) i ≡ Some (n + suc j, x)) (sym (in_front y (take j ys)))
      (at_step n j (rank ys j) x y (numbered (n + 1) ys) (passes y) (at_rank (n + 1) ys j x s t))

  length_step : (n : ℕ) (y : X) (rest : List (ℕ × X)) (b : Bool) → length (cond b ((n, y) ∷ rest) rest) ≡ add b (length rest)
  length_step n y rest true = refl
  length_step n y rest false = refl

  pub length_numbered : (n : ℕ) (xs : List X) → length (numbered n xs) ≡ length (filter passes xs)
  length_numbered n [] = refl
  length_numbered n (y ∷ ys) = length_step n y (numbered (n + 1) ys) (passes y) ∙ ap (add (passes y)) (length_numbered (n + 1) ys) ∙ sym (in_front y ys)
