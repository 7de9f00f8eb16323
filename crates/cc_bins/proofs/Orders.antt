-- Slots of which no two have one number stand in one order alone.
use Rattle.std.proofs.Common.{◌≡◌, ◌≤◌, ◌<◌, ◌+◌, ℕ, zero, suc, Bool, false, cond, List, [], ◌∷◌, length, get_or, count_by, refl, ap, sym, ◌∙◌, subst, arith, Contains, IsPermutation, IsSorted}
use Rattle.std.specs.Cmp.{IsTotalOrder, IsStrictWeakOrder, then_total, on_total, back_total, nat_cmp_total}
use Rattle.std.specs.Ordering.{is_lt, nat_cmp, ordering_then}
use Rattle.std.proofs.lemmas.Bool.Decides.{nat_tests, Decides-eqb}
use Rattle.std.proofs.lemmas.List.Sorted.{ranks_by, sorted_far, Contains-permutation, IsPermutation-sym, sum_by-IsPermutation}
use Rattle.std.proofs.lemmas.List.Sums.{sum_by-cons, get_or-le-sum_by}
use Rattle.cc_bins.specs.declared.types.Want.{Want}
use Rattle.cc_bins.specs.Packed.{AreApart}
use Rattle.cc_bins.specs.Placing.{place_order}
use Rattle.cc_bins.proofs.Once.{is_slot, one_at_most}

order_total : IsTotalOrder place_order
order_total = then_total (then_total (on_total (λ (w : Want). w.group) nat_cmp_total) (back_total (on_total (λ (w : Want). w.bits) nat_cmp_total))) (on_total (λ (w : Want). w.slot) nat_cmp_total)

abbrev lt : Want → Want → Bool
lt x y = is_lt (place_order x y)

lt_order : IsStrictWeakOrder lt
lt_order = ranks_by order_total (λ (w : Want). w)

-- slots of which neither comes first have one number
tied : (x y : Want) → lt x y ≡ false → lt y x ≡ false → x.slot ≡ y.slot
tied x y h k = tied_by x.group y.group x.bits y.bits x.slot y.slot h k
  where
    tied_by : (a b c d s t : ℕ) → is_lt (ordering_then (ordering_then (nat_cmp a b) (nat_cmp d c)) (nat_cmp s t)) ≡ false → is_lt (ordering_then (ordering_then (nat_cmp b a) (nat_cmp c d)) (nat_cmp t s)) ≡ false → s ≡ t
    tied_by a b c d s t h k = grind (arith, nat_tests)

-- each number stands once at most
One : List Want → Type 0
One xs = (s : ℕ) → count_by (is_slot s) xs ≤ 1

One-tail : (x : Want) (xs : List Want) → One (x ∷ xs) → One xs
unfolding One
One-tail x xs h = λ s. let a = sum_by-cons (λ (w : Want). cond (is_slot s w) 1 0) x xs in let b = h s in omega (arith, a, b)

-- so no later slot has the number of the first
far_slot : (x : Want) (xs : List Want) → One (x ∷ xs) → (k : ℕ) (d : Want) → k < length xs → (get_or xs k d).slot ≡ x.slot → ⊥
unfolding One
far_slot x xs h k d l e =
    let f : Want → ℕ = λ w. cond (is_slot x.slot w) 1 0 in
    let a = sum_by-cons (λ (w : Want). cond (is_slot x.slot w) 1 0) x xs in
    let b = h x.slot in
    let c = get_or-le-sum_by (λ (w : Want). cond (is_slot x.slot w) 1 0) xs k d l in
    let here = ap {B = ℕ} (λ (t : Bool). cond t 1 0) ((Decides-eqb x.slot x.slot).1 refl) in
    let there = ap {B = ℕ} (λ (t : Bool). cond t 1 0) ((Decides-eqb (get_or xs k d).slot x.slot).1 e) in
    omega (arith, a, b, c, here, there)

Sorted-tail : (x : Want) (xs : List Want) → IsSorted place_order (x ∷ xs) → IsSorted place_order xs
Sorted-tail x xs h = λ k d z l.
    let e : suc k + 1 ≡ suc (k + 1) = omega arith in
    subst (λ n. lt (get_or (x ∷ xs) n d) (get_or xs k d) ≡ false) e (h (suc k) d (omega arith) (omega arith))

-- a slot of the list does not come before the first one
first_first : (x : Want) (xs : List Want) → IsSorted place_order (x ∷ xs) → (w : Want) → Contains (x ∷ xs) w → lt w x ≡ false
first_first x xs h w c = subst (λ v. lt v x ≡ false) c.2 (sorted_far lt lt_order (x ∷ xs) h 0 c.0 w (omega arith) c.1)

first_is : (x : Want) (xs : List Want) → One (x ∷ xs) → (w : Want) → w.slot ≡ x.slot → (k : ℕ) → k < length (x ∷ xs) → get_or (x ∷ xs) k w ≡ w → x ≡ w
first_is x xs one w e zero l g = g
first_is x xs one w e (suc k) l g = absurd (far_slot x xs one k w (omega arith) (ap (λ (v : Want). v.slot) g ∙ e))

later_in : (x : Want) (xs : List Want) (w : Want) → (x ≡ w → ⊥) → (k : ℕ) → k < length (x ∷ xs) → get_or (x ∷ xs) k w ≡ w → Contains xs w
later_in x xs w n zero l g = absurd (n g)
later_in x xs w n (suc k) l g = (k, omega arith, g)

-- what is in one tail is in the other
tail_in : (x y : Want) (xs ys : List Want) → x ≡ y → One (x ∷ xs) → ((w : Want) → Contains (x ∷ xs) w → Contains (y ∷ ys) w) → (w : Want) → Contains xs w → Contains ys w
tail_in x y xs ys e one both w c =
    let h = both w (suc c.0, omega (arith, c.1), c.2) in
    later_in y ys w (λ f. far_slot x xs one c.0 w c.1 (ap (λ (v : Want). v.slot) (c.2 ∙ sym (e ∙ f)))) h.0 h.1 h.2

same_order : (xs ys : List Want) → IsSorted place_order xs → IsSorted place_order ys → One xs → One ys → ((w : Want) → Contains xs w → Contains ys w) → ((w : Want) → Contains ys w → Contains xs w) → xs ≡ ys
same_order [] [] up up' one one' there back = refl
same_order [] (y ∷ ys) up up' one one' there back = let h = back y (0, omega arith, refl) in absurd (omega (arith, h.1))
same_order (x ∷ xs) [] up up' one one' there back = let h = there x (0, omega arith, refl) in absurd (omega (arith, h.1))
same_order (x ∷ xs) (y ∷ ys) up up' one one' there back =
    let here = there x (0, omega arith, refl) in
    let other = back y (0, omega arith, refl) in
    let s : x.slot ≡ y.slot = tied x y (first_first y ys up' x here) (first_first x xs up y other) in
    let e : x ≡ y = first_is x xs one y (sym s) other.0 other.1 other.2 in
    let t = same_order xs ys (Sorted-tail x xs up) (Sorted-tail y ys up') (One-tail x xs one) (One-tail y ys one') (tail_in x y xs ys e one there) (tail_in y x ys xs (sym e) one' back) in
    ap (λ (v : Want). v ∷ xs) e ∙ ap (λ (vs : List Want). y ∷ vs) t

one_of : (wants xs : List Want) → AreApart wants → IsPermutation wants xs → One xs
unfolding One
one_of wants xs h p = λ s. let a = one_at_most s wants h in let b = sum_by-IsPermutation (λ (w : Want). cond (is_slot s w) 1 0) wants xs p in omega (arith, a, b)

pub one_order : (wants xs ys : List Want) → AreApart wants → IsPermutation wants xs → IsPermutation wants ys → IsSorted place_order xs → IsSorted place_order ys → xs ≡ ys
one_order wants xs ys h p q up up' =
    same_order xs ys up up' (one_of wants xs h p) (one_of wants ys h q) (λ w c. Contains-permutation wants ys w q (Contains-permutation xs wants w (IsPermutation-sym wants xs p) c)) (λ w c. Contains-permutation wants xs w p (Contains-permutation ys wants w (IsPermutation-sym wants ys q) c))
