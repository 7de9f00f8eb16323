-- The rank order is total: cross products compare quotients, since no price is nothing. Slots that are sorted by known prices
-- are sorted by rank.
use Rattle.std.proofs.Common.{◌≡◌, ◌≤◌, ◌<◌, ◌+◌, ◌*◌, ℕ, zero, suc, Bool, List, [], ◌∷◌, length, get_or, map, refl, ap, sym, ◌∙◌, subst, ⊎_elim, arith, All, IsPermutation, IsSorted, Ordering}
use Rattle.std.proofs.Math.Nat.{mul-lt-mul_of_pos_right, mul-le-mul_right}
use Rattle.std.specs.declared.cmp.Ordering.TheVariants.{Less, Equal, Greater}
use Rattle.std.specs.Cmp.{IsTotalOrder, IsStrictWeakOrder, then_total, on_total, nat_cmp_total}
use Rattle.std.specs.Ordering.{is_lt, nat_cmp, ordering_then}
use Rattle.std.proofs.lemmas.Bool.{cases_lt}
use Rattle.std.proofs.lemmas.Bool.Decides.{nat_tests}
use Rattle.std.proofs.lemmas.List.{length-map}
use Rattle.std.proofs.lemmas.List.Elements.{All-get_or}
use Rattle.std.proofs.lemmas.List.Sorted.{ranks_by, All-permutation, IsPermutation-map}
use Rattle.cc_cost_ranking.specs.declared.priced.Priced.{Priced}
use Rattle.cc_cost_ranking.specs.declared.types.Costed.{Costed}
use Rattle.cc_cost_ranking.specs.declared.types.Weights.{Weights}
use Rattle.cc_cost_ranking.specs.Priced.{priced_order}
use Rattle.cc_cost_ranking.specs.Ranking.{price, rank_order}

-- ---- cross products

is_less : (a b : ℕ) → a < b → nat_cmp a b ≡ Less
is_less a b h = grind (arith, nat_tests)

is_equal : (a b : ℕ) → a ≡ b → nat_cmp a b ≡ Equal
is_equal a b h = grind (arith, nat_tests)

is_greater : (a b : ℕ) → b < a → nat_cmp a b ≡ Greater
is_greater a b h = grind (arith, nat_tests)

less_is : (a b : ℕ) → nat_cmp a b ≡ Less → a < b
less_is a b h = grind (arith, nat_tests)

equal_is : (a b : ℕ) → nat_cmp a b ≡ Equal → a ≡ b
equal_is a b h = grind (arith, nat_tests)

up : (a b k : ℕ) → a < b → 0 < k → a * k < b * k
up a b k h some = mul-lt-mul_of_pos_right h some

scaled : (a b k : ℕ) → 0 < k → nat_cmp (a * k) (b * k) ≡ nat_cmp a b
scaled a b k some = ⊎_elim
    (λ (less : a < b). is_less (a * k) (b * k) (up a b k less some) ∙ sym (is_less a b less))
    (λ (no_less : b ≤ a). ⊎_elim
    (λ (more : b < a). is_greater (a * k) (b * k) (up b a k more some) ∙ sym (is_greater a b more))
    (λ (no_more : a ≤ b). let e : a ≡ b = omega arith in is_equal (a * k) (b * k) (ap (λ n. n * k) e) ∙ sym (is_equal a b e))
    (cases_lt b a))
    (cases_lt a b)

-- gains a, b, c at prices p, q, r
chained : (a p b q c r : ℕ) → 0 < p → 0 < q → 0 < r → b * p < a * q → c * q < b * r → c * p < a * r
chained a p b q c r some_p some_q some_r h k = ⊎_elim
    (λ (done : c * p < a * r). done)
    (λ (other : a * r ≤ c * p).
    let first : b * p * r < a * q * r = up (b * p) (a * q) r h some_r in
    let second : c * q * p < b * r * p = up (c * q) (b * r) p k some_p in
    let third : a * r * q ≤ c * p * q = mul-le-mul_right q other in
    absurd (omega (arith, first, second, third)))
    (cases_lt (c * p) (a * r))

alike : (a p b q c r : ℕ) → 0 < p → 0 < q → b * p ≡ a * q → nat_cmp (c * p) (a * r) ≡ nat_cmp (c * q) (b * r)
alike a p b q c r some_p some_q e =
    let m : b * p * r ≡ a * q * r = ap (λ n. n * r) e in
    let left : c * p * q ≡ c * q * p = omega arith in
    let right : a * r * q ≡ b * r * p = omega (arith, m) in
    sym (scaled (c * p) (a * r) q some_q) ∙ ap (λ n. nat_cmp n (a * r * q)) left ∙ ap (nat_cmp (c * q * p)) right ∙ scaled (c * q) (b * r) p some_p

module _ {X : Type 0} (gain cost : X → ℕ) (some : (x : X) → 0 < cost x) where
  abbrev cross : X → X → Ordering
  cross x y = nat_cmp (gain y * cost x) (gain x * cost y)

  cross_total : IsTotalOrder cross
  cross_total = record {
    antisymm = λ x y. nat_cmp_total.antisymm (gain y * cost x) (gain x * cost y);
    trans = λ x y z h k. is_less (gain z * cost x) (gain x * cost z)
        (chained (gain x) (cost x) (gain y) (cost y) (gain z) (cost z) (some x) (some y) (some z)
        (less_is (gain y * cost x) (gain x * cost y) h)
        (less_is (gain z * cost y) (gain y * cost z) k));
    congr = λ x y z e. alike (gain x) (cost x) (gain y) (cost y) (gain z) (cost z) (some x) (some y) (equal_is (gain y * cost x) (gain x * cost y) e);
  }

-- ---- orders

some_price : (weights : Weights) (c : Costed) → 0 < price weights c
some_price weights c = omega arith

rank_total : (weights : Weights) → IsTotalOrder (rank_order weights)
rank_total weights = then_total (cross_total (λ (c : Costed). c.gain) (price weights) (some_price weights)) (on_total (λ (c : Costed). c.slot) nat_cmp_total)

abbrev pub rank_lt : Weights → Costed → Costed → Bool
rank_lt weights x y = is_lt (rank_order weights x y)

pub rank_lt_order : (weights : Weights) → IsStrictWeakOrder (rank_lt weights)
rank_lt_order weights = ranks_by (rank_total weights) (λ (c : Costed). c)

some_known : (p : Priced) → 0 < p.price
some_known p = let h = p.some in omega (arith, h)

priced_total : IsTotalOrder priced_order
priced_total = then_total (cross_total (λ (p : Priced). p.costed.gain) (λ (p : Priced). p.price) some_known) (on_total (λ (p : Priced). p.costed.slot) nat_cmp_total)

pub priced_lt_order : IsStrictWeakOrder (λ x y. is_lt (priced_order x y))
priced_lt_order = ranks_by priced_total (λ (p : Priced). p)

-- ---- slots with their prices

abbrev pub HasPrice : Weights → Priced → Type 0
HasPrice weights p = p.price ≡ price weights p.costed

same_by : (g h p q p' q' : ℕ) (s : Ordering) → p ≡ p' → q ≡ q' → ordering_then (nat_cmp (g * p') (h * q')) s ≡ ordering_then (nat_cmp (g * p) (h * q)) s
same_by g h p q p' q' s e f = cc

same_order : (weights : Weights) (x y : Priced) → HasPrice weights x → HasPrice weights y → rank_order weights x.costed y.costed ≡ priced_order x y
same_order weights x y h k = same_by y.costed.gain x.costed.gain x.price y.price (price weights x.costed) (price weights y.costed) (nat_cmp x.costed.slot y.costed.slot) h k

pub sorted_by_rank : (weights : Weights) (ps : List Priced) → All (HasPrice weights) ps → IsSorted priced_order ps → IsSorted (rank_order weights) (map (λ (p : Priced). p.costed) ps)
sorted_by_rank weights [] all h = λ k d z l. absurd (omega arith)
sorted_by_rank weights (p ∷ ps) all h = λ k d z l.
    let n : length (map (λ (q : Priced). q.costed) (p ∷ ps)) ≡ length (p ∷ ps) = length-map (p ∷ ps) (λ (q : Priced). q.costed) in
    let later : k + 1 < length (p ∷ ps) = omega (arith, n, l) in
    let here : k < length (p ∷ ps) = omega (arith, later) in
    let a = get_or (p ∷ ps) k p in
    let b = get_or (p ∷ ps) (k + 1) p in
    let first : get_or (map (λ (q : Priced). q.costed) (p ∷ ps)) k d ≡ a.costed = mapped_at (p ∷ ps) k d p here in
    let second : get_or (map (λ (q : Priced). q.costed) (p ∷ ps)) (k + 1) d ≡ b.costed = mapped_at (p ∷ ps) (k + 1) d p later in
    let same = same_order weights b a (All-get_or (HasPrice weights) (p ∷ ps) (k + 1) p later all) (All-get_or (HasPrice weights) (p ∷ ps) k p here all) in
    ap (λ (c : Costed). rank_lt weights c (get_or (map (λ (q : Priced). q.costed) (p ∷ ps)) k d)) second
    ∙ ap (λ (c : Costed). rank_lt weights b.costed c) first ∙ ap is_lt same ∙ h k p z later
  where
    mapped_at : (qs : List Priced) (k : ℕ) (d : Costed) (q : Priced) → k < length qs → get_or (map (λ (q : Priced). q.costed) qs) k d ≡ (get_or qs k q).costed
    mapped_at [] k d q l = absurd (omega arith)
    mapped_at (r ∷ qs) zero d q l = refl
    mapped_at (r ∷ qs) (suc k) d q l = mapped_at qs k d q (omega arith)

-- slots in rank order, from slots whose prices are known
pub ranked : (weights : Weights) (list order : List Costed) (ps qs : List Priced) → map (λ (p : Priced). p.costed) ps ≡ list → All (HasPrice weights) ps → IsPermutation ps qs → IsSorted priced_order qs
    → order ≡ map (λ (p : Priced). p.costed) qs → IsPermutation list order × IsSorted (rank_order weights) order
ranked weights list order ps qs slots prices moved up e =
    let f : Priced → Costed = λ p. p.costed in
    let permuted : IsPermutation list (map f qs) = subst (λ (xs : List Costed). IsPermutation xs (map f qs)) slots (IsPermutation-map f ps qs moved) in
    let sorted : IsSorted (rank_order weights) (map f qs) = sorted_by_rank weights qs (All-permutation (HasPrice weights) ps qs moved prices) up in
    (subst (IsPermutation list) (sym e) permuted, subst (IsSorted (rank_order weights)) (sym e) sorted)
