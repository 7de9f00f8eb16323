-- Numbers that are gathered: what a rung has to have once one of them, or all between two ends, are added.
use Rattle.std.proofs.Common.{◌≡◌, ◌⊎◌, ◌∙◌, ℕ, ◌-◌, Bool, true, false, ℤ, pos, ◌+ℤ◌, ◌≤ℤ◌, List, [], ◌∷◌, length, get_or, Option, Some, None, refl, sym, ap, subst, inl, inr, ⊎_elim, cond, int_lt, arith}
use Rattle.std.specs.Option.{IfSome}
use Rattle.std.specs.Int.{int_max, int_min}
use Rattle.std.specs.List.{Contains}
use Rattle.std.specs.Int.Signed.{≤ℤ_refl}
use Rattle.std.proofs.lemmas.Int.{ints, clamps}
use Rattle.std.proofs.lemmas.List.{get_or_default}
use Rattle.cc_lattice.specs.Domains.{AreEnds}
use Rattle.cc_ranges.specs.Ends.{Ends, EndsHave}
use Rattle.cc_explicit.specs.Sets.{most_members}
use Rattle.cc_explicit.specs.declared.explicit.Explicit.{Explicit}
use Rattle.cc_explicit.proofs.Lists.{In, Rises, in_list, in_contains, rises, no_longer}
use Rattle.cc_sets.specs.declared.range.Range.{Range}
use Rattle.cc_sets.specs.declared.gathered.Spread.{Spread}
use Rattle.cc_sets.specs.declared.gathered.Gathered.{Gathered}
use Rattle.cc_sets.specs.declared.vals.Vals.{Vals}
use Rattle.cc_sets.specs.declared.vals.Vals.TheVariants.{Few, Many}
use Rattle.cc_sets.specs.Rungs.{ValsHas, ValsBelow, Covers}
use Rattle.cc_sets.specs.Gatherings.{PartHas, PartEnds, Holds, Adds, wider_low, wider_high}
use Rattle.cc_sets.specs.laws.Ends.{list_are_ends, list_none}
use Rattle.cc_sets.specs.Ranges.{AreLeastBits}
use Rattle.cc_sets.specs.laws.Runs.{too_wide, fit_between, with_one}

abbrev pub gathered : Explicit → Option Spread → Gathered
gathered s o = record { members = s; spread = o }

abbrev Between : Spread → ℤ → Type 0
Between s = EndsHave (Some (s.low, s.high))

spread_ordered : (s : Spread) → s.low ≤ℤ s.high
spread_ordered s = let w = s.wide.wide in omega (arith, ints)

-- a rung with all between far ends, and with two numbers, has all between those two
out_to : (x : Vals) (s : Spread) (low high : ℤ) → Covers x (Between s) → ValsHas x low → ValsHas x high → Covers x (EndsHave (Some (low, high)))
out_to (Few t) s low high c l h v m = absurd (too_wide s.low s.high t s.wide.wide (λ w a b. c w (a, b)))
out_to (Many r) s low high c l h v m =
    let l0 = l.0 in let h1 = h.1 in let m0 = m.0 in let m1 = m.1 in
    (omega (arith, ints), omega (arith, ints))

least_in : (x : Vals) (a b : ℤ) → ValsHas x a → ValsHas x b → ValsHas x (int_min a b)
least_in x a b h k = by_bool (int_lt b a)
  where
    by_bool : (t : Bool) → ValsHas x (cond t b a)
    by_bool true = k
    by_bool false = h

most_in : (x : Vals) (a b : ℤ) → ValsHas x a → ValsHas x b → ValsHas x (int_max a b)
most_in x a b h k = by_bool (int_lt b a)
  where
    by_bool : (t : Bool) → ValsHas x (cond t a b)
    by_bool true = h
    by_bool false = k

low_covered : (x : Vals) (s : Spread) → Covers x (Between s) → ValsHas x s.low
low_covered x s c = c s.low (≤ℤ_refl s.low, spread_ordered s)

high_covered : (x : Vals) (s : Spread) → Covers x (Between s) → ValsHas x s.high
high_covered x s c = c s.high (spread_ordered s, ≤ℤ_refl s.high)

-- ends with a number more
pub spread_more : (m m' : Explicit) (s s' : Spread) (v : ℤ) → s'.low ≡ int_min s.low v → s'.high ≡ int_max s.high v
    → Adds (gathered m (Some s)) (gathered m' (Some s')) (λ w. v ≡ w)
spread_more m m' s s' v e f = λ x. (
  λ h. (
    λ w k. let a = k.0 in let b = k.1 in h w (omega (arith, ints, clamps), omega (arith, ints, clamps)),
    λ w g. subst (ValsHas x) g (h v (omega (arith, ints, clamps), omega (arith, ints, clamps))),
  ),
  λ h. let i = h.1 v refl in
      out_to x s s'.low s'.high h.0
      (subst (ValsHas x) (sym e) (least_in x s.low v (low_covered x s h.0) i))
      (subst (ValsHas x) (sym f) (most_in x s.high v (high_covered x s h.0) i)),
)

-- a member more
pub member_more : (m m' : Explicit) (v : ℤ) → ((w : ℤ) → (Contains m'.items.items w → (w ≡ v) ⊎ Contains m.items.items w) × ((w ≡ v) ⊎ Contains m.items.items w → Contains m'.items.items w))
    → Adds (gathered m None) (gathered m' None) (λ w. v ≡ w)
member_more m m' v e = λ x. (
  λ h. ((λ w k. h w ((e w).1 (inr k))), (λ w g. h w ((e w).1 (inl (sym g))))),
  λ h w k. ⊎_elim (λ (g : w ≡ v). h.1 w (sym g)) (λ (u : Contains m.items.items w). h.0 w u) ((e w).0 k),
)

-- a full set with a number more

full_high : (x : ℤ) (xs : List ℤ) (d : ℤ) → length (x ∷ xs) ≡ most_members → get_or (x ∷ xs) (length xs) x ≡ get_or (x ∷ xs) (most_members - 1) d
full_high x xs d l =
    let k : length xs ≡ 63 = omega arith in
    get_or_default (x ∷ xs) (length xs) x d (omega arith) ∙ ap (λ (n : ℕ). get_or (x ∷ xs) n d) k

pub full_ends : (xs : List ℤ) (d : ℤ) → Rises xs → length xs ≡ most_members → AreEnds (Contains xs) (get_or xs 0 d, get_or xs (most_members - 1) d)
full_ends [] d r l = absurd (omega arith)
full_ends (x ∷ xs) d r l = subst (λ (h : ℤ). AreEnds (Contains (x ∷ xs)) (x, h)) (full_high x xs d l) (list_are_ends (x ∷ xs) r)

-- its ends lie far apart
pub full_wide : (xs : List ℤ) (v d low high : ℤ) → Rises xs → length xs ≡ most_members → (Contains xs v → ⊥)
    → low ≡ int_min (get_or xs 0 d) v → high ≡ int_max (get_or xs (most_members - 1) d) v → (low +ℤ pos most_members) ≤ℤ high
full_wide xs v d low high r l absent e f =
    let ends = full_ends xs d r l in
    let more = with_one xs v r (λ t. absent (in_contains xs v t)) in
    let n = more.2 in
    let ordered = ends.low (get_or xs (most_members - 1) d) ends.high_in in
    let k = fit_between more.0 low high more.1 (omega (arith, ints, clamps))
    (λ w t. ⊎_elim
    (λ (g : w ≡ v). (omega (arith, ints, clamps), omega (arith, ints, clamps)))
    (λ (u : In w xs). let a = ends.low w (in_contains xs w u) in let b = ends.high w (in_contains xs w u) in (omega (arith, ints, clamps), omega (arith, ints, clamps)))
    (more.3 w t)) in
    omega (arith, ints)

-- no explicit set has its members and the number
full_many : (xs : List ℤ) (v : ℤ) (t : Explicit) → Rises xs → length xs ≡ most_members → (Contains xs v → ⊥) → ((w : ℤ) → Contains xs w → Contains t.items.items w) → Contains t.items.items v → ⊥
full_many xs v t r l absent h k =
    let more = with_one xs v r (λ u. absent (in_contains xs v u)) in
    let n = more.2 in
    let few = t.few in
    let m = no_longer more.0 t.items.items more.1 (rises t.items.items t.ascending)
    (λ w u. in_list t.items.items w (⊎_elim (λ (g : w ≡ v). subst (Contains t.items.items) (sym g) k) (λ (i : In w xs). h w (in_contains xs w i)) (more.3 w u))) in
    omega (arith, m, n, few, l)

full_out : (x : Vals) (xs : List ℤ) (v low high : ℤ) → Rises xs → length xs ≡ most_members → (Contains xs v → ⊥) → Covers x (Contains xs) → ValsHas x v → ValsHas x low → ValsHas x high
    → Covers x (EndsHave (Some (low, high)))
full_out (Few t) xs v low high r l absent c k a b w m = absurd (full_many xs v t r l absent c k)
full_out (Many q) xs v low high r l absent c k a b w m =
    let a0 = a.0 in let b1 = b.1 in let m0 = m.0 in let m1 = m.1 in
    (omega (arith, ints), omega (arith, ints))

pub full_more : (m m' : Explicit) (s : Spread) (v d : ℤ) → length m.items.items ≡ most_members → (Contains m.items.items v → ⊥)
    → s.low ≡ int_min (get_or m.items.items 0 d) v → s.high ≡ int_max (get_or m.items.items (most_members - 1) d) v → Adds (gathered m None) (gathered m' (Some s)) (λ w. v ≡ w)
full_more m m' s v d l absent e f =
    let r = rises m.items.items m.ascending in
    let ends = full_ends m.items.items d r l in
    λ x. (
      λ h. (
        λ w k. let a = ends.low w k in let b = ends.high w k in h w (omega (arith, ints, clamps), omega (arith, ints, clamps)),
        λ w g. let o = ends.low (get_or m.items.items (most_members - 1) d) ends.high_in in subst (ValsHas x) g (h v (omega (arith, ints, clamps), omega (arith, ints, clamps))),
      ),
      λ h. let i = h.1 v refl in
          full_out x m.items.items v s.low s.high r l absent h.0 i
          (subst (ValsHas x) (sym e) (least_in x (get_or m.items.items 0 d) v (h.0 (get_or m.items.items 0 d) ends.low_in) i))
          (subst (ValsHas x) (sym f) (most_in x (get_or m.items.items (most_members - 1) d) v (h.0 (get_or m.items.items (most_members - 1) d) ends.high_in) i)),
    )

-- all between two ends more

part_ends : (m : Explicit) (o : Option Spread) → IfSome (PartEnds m o) (AreEnds (PartHas m o))
part_ends m None = list_are_ends m.items.items (rises m.items.items m.ascending)
part_ends m (Some s) = record { low_in = (≤ℤ_refl s.low, spread_ordered s); high_in = (spread_ordered s, ≤ℤ_refl s.high); low = λ v h. h.0; high = λ v h. h.1 }

part_none : (m : Explicit) (o : Option Spread) → PartEnds m o ≡ None → (v : ℤ) → PartHas m o v → ⊥
part_none m None e = (list_none m.items.items).0 e
part_none m (Some s) e = cc

out_by : (P : ℤ → Type 0) (e : Ends) (s s' : Spread) → IfSome e (AreEnds P) → (e ≡ None → (v : ℤ) → P v → ⊥) → s'.low ≡ wider_low s.low e → s'.high ≡ wider_high s.high e
    → (x : Vals) → (Covers x (Between s') → Covers x P × Covers x (Between s)) × (Covers x P × Covers x (Between s) → Covers x (Between s'))
out_by P None s s' ends none e f x = (
  λ h. ((λ v p. absurd (none refl v p)), (λ v k. let a = k.0 in let b = k.1 in h v (omega (arith, ints), omega (arith, ints)))),
  λ h v k. let a = k.0 in let b = k.1 in h.1 v (omega (arith, ints), omega (arith, ints)),
)
out_by P (Some (l, m)) s s' ends none e f x = (
  λ h. (
    (λ v p. let a = ends.low v p in let b = ends.high v p in h v (omega (arith, ints, clamps), omega (arith, ints, clamps))),
    (λ v k. let a = k.0 in let b = k.1 in h v (omega (arith, ints, clamps), omega (arith, ints, clamps))),
  ),
  λ h. let i = h.0 l ends.low_in in let j = h.0 m ends.high_in in
      out_to x s s'.low s'.high h.1
      (subst (ValsHas x) (sym e) (least_in x (int_min s.low l) m (least_in x s.low l (low_covered x s h.1) i) j))
      (subst (ValsHas x) (sym f) (most_in x (int_max s.high l) m (most_in x s.high l (high_covered x s h.1) i) j)),
)

pub spread_added : (m m' : Explicit) (o : Option Spread) (s s' : Spread) → s'.low ≡ wider_low s.low (PartEnds m o) → s'.high ≡ wider_high s.high (PartEnds m o)
    → Adds (gathered m o) (gathered m' (Some s')) (Between s)
spread_added m m' o s s' e f = out_by (PartHas m o) (PartEnds m o) s s' (part_ends m o) (part_none m o) e f

-- the hull

pub range_holds : (m : Explicit) (s : Spread) (r : Range) → AreLeastBits s.low s.high r.signed r.bits → Holds (Many r) (gathered m (Some s))
range_holds m s r p v k = let a = k.0 in let b = k.1 in let l = p.low_in in let h = p.high_in in (omega (arith, ints), omega (arith, ints))

pub range_least : (m : Explicit) (s : Spread) (r : Range) → AreLeastBits s.low s.high r.signed r.bits → (x : Vals) → Holds x (gathered m (Some s)) → ValsBelow (Many r) x
range_least m s r p (Few t) h v k = absurd (too_wide s.low s.high t s.wide.wide (λ w a b. h w (a, b)))
range_least m s r p (Many q) h v k =
    let l = low_covered (Many q) s h in
    let g = high_covered (Many q) s h in
    let n = p.least q.signed q.bits l.0 g.1 in
    let n0 = n.0 in let n1 = n.1 in let a = k.0 in let b = k.1 in
    (omega (arith, ints), omega (arith, ints))
