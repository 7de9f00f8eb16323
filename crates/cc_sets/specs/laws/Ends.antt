-- The ends of a set: its least and its greatest member, which lie in reach.
use Rattle.std.proofs.Common.{◌≡◌, ◌↔◌, ℕ, zero, suc, ◌-◌, ◌^◌, ◌<◌, ◌≤◌, Bool, true, false, ℤ, ◌≤ℤ◌, List, [], ◌∷◌, length, get_or, Some, None, refl, subst, inl, ⊎_elim, arith, pow_mono, pow_pos}
use Rattle.std.specs.Option.{IfSome}
use Rattle.std.specs.List.{Contains}
use Rattle.std.specs.Int.Signed.{≤ℤ_refl}
use Rattle.std.proofs.lemmas.Int.{ints}
use Rattle.std.proofs.lemmas.List.Elements.{Contains-get_or}
use Rattle.cc_num.specs.Integers.{least_of_bits, most_of_bits}
use Rattle.cc_num.proofs.Residues.{halves}
use Rattle.cc_lattice.specs.Domains.{AreEnds, IsInReach}
use Rattle.cc_ranges.specs.Ends.{Ends, EndsHave, EndsBelow}
use Rattle.cc_explicit.specs.Sets.{most_members, list_ends}
use Rattle.cc_explicit.proofs.Lists.{In, Rises, in_list, in_contains, rises}
use Rattle.cc_sets.specs.declared.range.Range.{Range}
use Rattle.cc_sets.specs.declared.vals.Vals.{Vals}
use Rattle.cc_sets.specs.declared.vals.Vals.TheVariants.{Few, Many}
use Rattle.cc_sets.specs.Ranges.{most_bits, IsSpread}
use Rattle.cc_sets.specs.Rungs.{low_of, high_of, ValsHas, ValsBelow, vals_ends}

-- ranges

some_bit : (b : ℕ) → 64 < 2 ^ b → 0 < b
some_bit zero h = absurd (omega arith)
some_bit (suc b) h = omega arith

pub spread_bits : (s : Bool) (b : ℕ) → most_members < 2 ^ b → b ≤ most_bits s → IsSpread (least_of_bits s b) (most_of_bits s b)
spread_bits true b h k =
    let two = halves b (some_bit b h) in
    let less : b - 1 ≤ 64 = omega arith in
    let top : 2 ^ (b - 1) ≤ 2 ^ 64 = pow_mono less in
    let some = pow_pos (b - 1) in
    record { wide = omega (arith, ints); least = omega (arith, ints); most = omega (arith, ints) }
spread_bits false b h k =
    let top : 2 ^ b ≤ 2 ^ 64 = pow_mono k in
    record { wide = omega (arith, ints); least = omega (arith, ints); most = omega (arith, ints) }

pub range_spread : (r : Range) → IsSpread (low_of r) (high_of r)
range_spread r = spread_bits r.signed r.bits r.many r.few

pub range_ordered : (r : Range) → low_of r ≤ℤ high_of r
range_ordered r = let w = (range_spread r).wide in omega (arith, ints)

-- explicit sets

last_most : (x : ℤ) (xs : List ℤ) (d : ℤ) → Rises (x ∷ xs) → (v : ℤ) → In v (x ∷ xs) → v ≤ℤ get_or (x ∷ xs) (length xs) d
last_most x [] d r v h = ⊎_elim (λ (e : x ≡ v). subst (λ (z : ℤ). z ≤ℤ x) e (≤ℤ_refl x)) (λ (t : In v []). absurd t) h
last_most x (y ∷ ys) d r v h = ⊎_elim
    (λ (e : x ≡ v).
    let up = r.0 y (inl refl) in
    let k = last_most y ys d r.1 y (inl refl) in
    omega (arith, ints))
    (λ (t : In v (y ∷ ys)). last_most y ys d r.1 v t)
    h

pub list_are_ends : (xs : List ℤ) → Rises xs → IfSome (list_ends xs) (AreEnds (Contains xs))
list_are_ends [] r = tt
list_are_ends (x ∷ xs) r = record {
  low_in = in_contains (x ∷ xs) x (inl refl);
  high_in = Contains-get_or (x ∷ xs) (length xs) x (omega arith);
  low = λ v h. ⊎_elim (λ (e : x ≡ v). subst (λ (z : ℤ). x ≤ℤ z) e (≤ℤ_refl x)) (λ (t : In v xs). let up = r.0 v t in omega (arith, ints)) (in_list (x ∷ xs) v h);
  high = λ v h. last_most x xs x r v (in_list (x ∷ xs) v h);
}

pub list_none : (xs : List ℤ) → (list_ends xs ≡ None) ↔ ((v : ℤ) → Contains xs v → ⊥)
list_none [] = ((λ e v h. in_list [] v h), (λ h. refl))
list_none (x ∷ xs) = ((λ e. cc), (λ h. absurd (h x (in_contains (x ∷ xs) x (inl refl)))))

-- sets

pub set_ends : (x : Vals) → IfSome (vals_ends x) (AreEnds (ValsHas x))
set_ends (Few s) = list_are_ends s.items.items (rises s.items.items s.ascending)
set_ends (Many r) = record { low_in = (≤ℤ_refl (low_of r), range_ordered r); high_in = (range_ordered r, ≤ℤ_refl (high_of r)); low = λ v h. h.0; high = λ v h. h.1 }

pub set_none : (x : Vals) → (vals_ends x ≡ None) ↔ ((v : ℤ) → ValsHas x v → ⊥)
set_none (Few s) = list_none s.items.items
set_none (Many r) = ((λ e. cc), (λ h. absurd (h (low_of r) (≤ℤ_refl (low_of r), range_ordered r))))

pub set_reach : (x : Vals) (v : ℤ) → ValsHas x v → IsInReach v
set_reach (Few s) v h = s.reach v h
set_reach (Many r) v h =
    let p = range_spread r in
    let a = p.least in let b = p.most in let h0 = h.0 in let h1 = h.1 in
    record { least = omega (arith, ints); most = omega (arith, ints) }

pub have_by : (P : ℤ → Type 0) (e : Ends) → IfSome e (AreEnds P) → (e ≡ None → (v : ℤ) → P v → ⊥) → (v : ℤ) → P v → EndsHave e v
have_by P None h none v p = none refl v p
have_by P (Some (low, high)) h none v p = (h.low v p, h.high v p)

pub ends_have : (x : Vals) (v : ℤ) → ValsHas x v → EndsHave (vals_ends x) v
ends_have x v h = have_by (ValsHas x) (vals_ends x) (set_ends x) ((set_none x).0) v h

below_by : (P Q : ℤ → Type 0) (e f : Ends) → ((v : ℤ) → P v → Q v) → IfSome e (AreEnds P) → IfSome f (AreEnds Q) → (f ≡ None → (v : ℤ) → Q v → ⊥) → EndsBelow e f
below_by P Q None f sub h k none = tt
below_by P Q (Some (low, high)) None sub h k none = absurd (none refl low (sub low h.low_in))
below_by P Q (Some (low, high)) (Some (low', high')) sub h k none = (k.low low (sub low h.low_in), k.high high (sub high h.high_in))

pub ends_below : (x y : Vals) → ValsBelow x y → EndsBelow (vals_ends x) (vals_ends y)
ends_below x y h = below_by (ValsHas x) (ValsHas y) (vals_ends x) (vals_ends y) h (set_ends x) (set_ends y) ((set_none y).0)
