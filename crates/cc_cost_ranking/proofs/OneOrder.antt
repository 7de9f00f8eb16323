-- Slots of which no two have one number stand in one rank order alone.
use Rattle.std.proofs.Common.{◌≡◌, ◌≢◌, ◌≤◌, ◌<◌, ◌+◌, ◌*◌, ◌==◌, ℕ, zero, suc, Bool, true, false, cond, List, [], ◌∷◌, length, get_or, count_by, refl, ap, sym, ◌∙◌, subst, arith, All, Contains, IsPermutation, IsSorted}
use Rattle.std.specs.Ordering.{is_lt, nat_cmp, ordering_then}
use Rattle.std.proofs.lemmas.Bool.Decides.{nat_tests, Decides-eqb}
use Rattle.std.proofs.lemmas.List.Elements.{All-head, All-tail}
use Rattle.std.proofs.lemmas.List.Sorted.{sorted_far, Contains-permutation, IsPermutation-sym, sum_by-IsPermutation}
use Rattle.std.proofs.lemmas.List.Sums.{sum_by-cons, get_or-le-sum_by}
use Rattle.cc_cost_ranking.specs.declared.types.Costed.{Costed}
use Rattle.cc_cost_ranking.specs.declared.types.Weights.{Weights}
use Rattle.cc_cost_ranking.specs.Ranking.{price, rank_order, AreApart}
use Rattle.cc_cost_ranking.proofs.Orders.{rank_lt_order}

-- ---- each number stands once at most

module _ (s : ℕ) where
  abbrev pub is_slot : Costed → Bool
  is_slot x = x.slot == s

  none_more : (x : Costed) (xs : List Costed) → x.slot ≡ s → All (λ y. x.slot ≢ y.slot) xs → count_by is_slot xs ≡ 0
  none_more x [] e h = refl
  none_more x (y ∷ xs) e h =
      let a = sum_by-cons (λ (x : Costed). cond (is_slot x) 1 0) y xs in
      let k : (y.slot == s) ≡ false = other (y.slot) (All-head (λ (z : Costed). x.slot ≢ z.slot) y xs h) in
      omega (arith, a, ap {B = ℕ} (λ (b : Bool). cond b 1 0) k, none_more x xs e (All-tail (λ (z : Costed). x.slot ≢ z.slot) y xs h))
    where
      other : (n : ℕ) → x.slot ≢ n → (n == s) ≡ false
      other n f = grind (arith, nat_tests)

  pair_head : (x : Costed) (xs : List Costed) → AreApart (x ∷ xs) → All (λ y. x.slot ≢ y.slot) xs
  pair_head x xs h = λ k d l. h 0 (suc k) d (omega arith) (omega arith)

  pair_tail : (x : Costed) (xs : List Costed) → AreApart (x ∷ xs) → AreApart xs
  pair_tail x xs h = λ i j d l k. h (suc i) (suc j) d (omega arith) (omega arith)

  one_step : (x : Costed) (xs : List Costed) → AreApart (x ∷ xs) → count_by is_slot xs ≤ 1 → (b : Bool) → is_slot x ≡ b → count_by is_slot (x ∷ xs) ≤ 1
  one_step x xs h k true e =
      let a = sum_by-cons (λ (x : Costed). cond (is_slot x) 1 0) x xs in
      let n = none_more x xs ((Decides-eqb x.slot s).0 e) (pair_head x xs h) in
      omega (arith, a, ap {B = ℕ} (λ (b : Bool). cond b 1 0) e, n)
  one_step x xs h k false e =
      let a = sum_by-cons (λ (x : Costed). cond (is_slot x) 1 0) x xs in
      omega (arith, a, ap {B = ℕ} (λ (b : Bool). cond b 1 0) e, k)

  pub one_at_most : (xs : List Costed) → AreApart xs → count_by is_slot xs ≤ 1
  one_at_most [] h = omega arith
  one_at_most (x ∷ xs) h = one_step x xs h (one_at_most xs (pair_tail x xs h)) (is_slot x) refl

-- ---- one order

module _ (weights : Weights) where
  abbrev lt : Costed → Costed → Bool
  lt x y = is_lt (rank_order weights x y)

  -- slots of which neither comes first have one number
  tied : (x y : Costed) → lt x y ≡ false → lt y x ≡ false → x.slot ≡ y.slot
  tied x y h k = tied_by (y.gain * price weights x) (x.gain * price weights y) x.slot y.slot h k
    where
      tied_by : (a b s t : ℕ) → is_lt (ordering_then (nat_cmp a b) (nat_cmp s t)) ≡ false → is_lt (ordering_then (nat_cmp b a) (nat_cmp t s)) ≡ false → s ≡ t
      tied_by a b s t h k = grind (arith, nat_tests)

  -- each number stands once at most
  One : List Costed → Type 0
  One xs = (s : ℕ) → count_by (is_slot s) xs ≤ 1

  One-tail : (x : Costed) (xs : List Costed) → One (x ∷ xs) → One xs
  unfolding One
  One-tail x xs h = λ s. let a = sum_by-cons (λ (w : Costed). cond (is_slot s w) 1 0) x xs in let b = h s in omega (arith, a, b)

  -- so no later slot has the number of the first
  far_slot : (x : Costed) (xs : List Costed) → One (x ∷ xs) → (k : ℕ) (d : Costed) → k < length xs → (get_or xs k d).slot ≡ x.slot → ⊥
  unfolding One
  far_slot x xs h k d l e =
      let f : Costed → ℕ = λ w. cond (is_slot x.slot w) 1 0 in
      let a = sum_by-cons (λ (w : Costed). cond (is_slot x.slot w) 1 0) x xs in
      let b = h x.slot in
      let c = get_or-le-sum_by (λ (w : Costed). cond (is_slot x.slot w) 1 0) xs k d l in
      let here = ap {B = ℕ} (λ (t : Bool). cond t 1 0) ((Decides-eqb x.slot x.slot).1 refl) in
      let there = ap {B = ℕ} (λ (t : Bool). cond t 1 0) ((Decides-eqb (get_or xs k d).slot x.slot).1 e) in
      omega (arith, a, b, c, here, there)

  Sorted-tail : (x : Costed) (xs : List Costed) → IsSorted (rank_order weights) (x ∷ xs) → IsSorted (rank_order weights) xs
  Sorted-tail x xs h = λ k d z l.
      let e : suc k + 1 ≡ suc (k + 1) = omega arith in
      subst (λ n. lt (get_or (x ∷ xs) n d) (get_or xs k d) ≡ false) e (h (suc k) d (omega arith) (omega arith))

  -- a slot of the list does not come before the first one
  first_first : (x : Costed) (xs : List Costed) → IsSorted (rank_order weights) (x ∷ xs) → (w : Costed) → Contains (x ∷ xs) w → lt w x ≡ false
  first_first x xs h w c = subst (λ v. lt v x ≡ false) c.2 (sorted_far lt (rank_lt_order weights) (x ∷ xs) h 0 c.0 w (omega arith) c.1)

  first_is : (x : Costed) (xs : List Costed) → One (x ∷ xs) → (w : Costed) → w.slot ≡ x.slot → (k : ℕ) → k < length (x ∷ xs) → get_or (x ∷ xs) k w ≡ w → x ≡ w
  first_is x xs one w e zero l g = g
  first_is x xs one w e (suc k) l g = absurd (far_slot x xs one k w (omega arith) (ap (λ (v : Costed). v.slot) g ∙ e))

  later_in : (x : Costed) (xs : List Costed) (w : Costed) → (x ≡ w → ⊥) → (k : ℕ) → k < length (x ∷ xs) → get_or (x ∷ xs) k w ≡ w → Contains xs w
  later_in x xs w n zero l g = absurd (n g)
  later_in x xs w n (suc k) l g = (k, omega arith, g)

  -- what is in one tail is in the other
  tail_in : (x y : Costed) (xs ys : List Costed) → x ≡ y → One (x ∷ xs) → ((w : Costed) → Contains (x ∷ xs) w → Contains (y ∷ ys) w) → (w : Costed) → Contains xs w → Contains ys w
  tail_in x y xs ys e one both w c =
      let h = both w (suc c.0, omega (arith, c.1), c.2) in
      later_in y ys w (λ f. far_slot x xs one c.0 w c.1 (ap (λ (v : Costed). v.slot) (c.2 ∙ sym (e ∙ f)))) h.0 h.1 h.2

  same_order : (xs ys : List Costed) → IsSorted (rank_order weights) xs → IsSorted (rank_order weights) ys → One xs → One ys → ((w : Costed) → Contains xs w → Contains ys w) → ((w : Costed) → Contains ys w → Contains xs w) → xs ≡ ys
  same_order [] [] up up' one one' there back = refl
  same_order [] (y ∷ ys) up up' one one' there back = let h = back y (0, omega arith, refl) in absurd (omega (arith, h.1))
  same_order (x ∷ xs) [] up up' one one' there back = let h = there x (0, omega arith, refl) in absurd (omega (arith, h.1))
  same_order (x ∷ xs) (y ∷ ys) up up' one one' there back =
      let here = there x (0, omega arith, refl) in
      let other = back y (0, omega arith, refl) in
      let s : x.slot ≡ y.slot = tied x y (first_first y ys up' x here) (first_first x xs up y other) in
      let e : x ≡ y = first_is x xs one y (sym s) other.0 other.1 other.2 in
      let t = same_order xs ys (Sorted-tail x xs up) (Sorted-tail y ys up') (One-tail x xs one) (One-tail y ys one') (tail_in x y xs ys e one there) (tail_in y x ys xs (sym e) one' back) in
      ap (λ (v : Costed). v ∷ xs) e ∙ ap (λ (vs : List Costed). y ∷ vs) t

  one_of : (list xs : List Costed) → AreApart list → IsPermutation list xs → One xs
  unfolding One
  one_of list xs h p = λ s. let a = one_at_most s list h in let b = sum_by-IsPermutation (λ (w : Costed). cond (is_slot s w) 1 0) list xs p in omega (arith, a, b)

  pub one_order : (list xs ys : List Costed) → AreApart list → IsPermutation list xs → IsPermutation list ys → IsSorted (rank_order weights) xs → IsSorted (rank_order weights) ys → xs ≡ ys
  one_order list xs ys h p q up up' =
      same_order xs ys up up' (one_of list xs h p) (one_of list ys h q) (λ w c. Contains-permutation list ys w q (Contains-permutation xs list w (IsPermutation-sym list xs p) c)) (λ w c. Contains-permutation list xs w p (Contains-permutation ys list w (IsPermutation-sym list ys q) c))
