-- Rungs with the same members are the same, and a rung that is strictly above another has less room.
use Rattle.std.proofs.Common.{◌≡◌, ◌≢◌, ◌⊎◌, ◌∙◌, ℕ, zero, suc, ◌-◌, ◌^◌, ◌<◌, ◌≤◌, Bool, true, false, ℤ, ◌≤ℤ◌, List, length, refl, sym, ap, subst, inl, inr, ⊎_elim, arith, pow_mono, pow_pos}
use Rattle.std.specs.Option.{IfSome}
use Rattle.std.specs.List.{Contains}
use Rattle.std.specs.Int.Signed.{≤ℤ_refl}
use Rattle.std.proofs.Math.Bridge.{le_prop}
use Rattle.std.proofs.Math.Dec.{T_prop}
use native.Mathlib.Nat.{ℕ_set}
use Rattle.std.specs.Global.{Global}
use Rattle.std.proofs.Math.Pow.{pow-lt}
use Rattle.std.proofs.lemmas.Int.{ints}
use Rattle.std.proofs.lemmas.Bool.{cases_lt}
use Rattle.cc_num.specs.Integers.{least_of_bits, most_of_bits}
use Rattle.cc_lattice.specs.Domains.{Ascends}
use Rattle.cc_explicit.specs.Sets.{most_members, AreInReach}
use Rattle.cc_explicit.specs.declared.explicit.Explicit.{Explicit}
use Rattle.cc_explicit.proofs.Lists.{Within, in_list, in_contains, rises, no_more, same_list}
use Rattle.cc_sets.specs.declared.range.Range.{Range}
use Rattle.cc_sets.specs.declared.vals.Vals.{Vals}
use Rattle.cc_sets.specs.declared.vals.Vals.TheVariants.{Few, Many}
use Rattle.cc_sets.specs.Ranges.{most_bits}
use Rattle.cc_sets.specs.Rungs.{low_of, high_of, ValsHas, ValsBelow, vals_members, vals_room}
use Rattle.cc_sets.specs.laws.Ends.{range_spread, range_ordered}
use Rattle.cc_sets.specs.laws.Runs.{too_wide}

-- a range has more numbers than an explicit set
pub not_few : (r : Range) (s : Explicit) → ValsBelow (Many r) (Few s) → ⊥
not_few r s h = too_wide (low_of r) (high_of r) s (range_spread r).wide (λ v a b. h v (a, b))

-- an explicit set is known by its members

abbrev explicit : (xs : List ℤ) (n : ℕ) → n ≡ most_members → Ascends xs → length xs ≤ most_members → AreInReach xs → Explicit
explicit xs n i a f r = record { items = record { items = xs; capacity = n }; inline = i; ascending = a; few = f; reach = r }

inline_prop : (n : ℕ) (p q : n ≡ most_members) → p ≡ q
inline_prop n = hlevel (ℕ_set)

ascends_prop : (xs : List ℤ) (p q : Ascends xs) → p ≡ q
ascends_prop xs = hlevel (T_prop)

few_prop : (xs : List ℤ) (p q : length xs ≤ most_members) → p ≡ q
few_prop xs = hlevel (T_prop, le_prop)

reach_prop : (xs : List ℤ) (p q : AreInReach xs) → p ≡ q
reach_prop xs = hlevel (T_prop)

same_facts : (xs : List ℤ) (n : ℕ) (i i' : n ≡ most_members) (a a' : Ascends xs) (f f' : length xs ≤ most_members) (r r' : AreInReach xs)
    → explicit xs n i a f r ≡ explicit xs n i' a' f' r'
same_facts xs n i i' a a' f f' r r' =
    ap (λ p. explicit xs n p a f r) (inline_prop n i i') ∙ (ap (λ p. explicit xs n i' p f r) (ascends_prop xs a a')
    ∙ (ap (λ p. explicit xs n i' a' p r) (few_prop xs f f') ∙ ap (λ p. explicit xs n i' a' f' p) (reach_prop xs r r')))

same_members : (xs ys : List ℤ) (n : ℕ) (i i' : n ≡ most_members) (a : Ascends xs) (f : length xs ≤ most_members) (r : AreInReach xs) (a' : Ascends ys) (f' : length ys ≤ most_members) (r' : AreInReach ys)
    → xs ≡ ys → explicit xs n i a f r ≡ explicit ys n i' a' f' r'
same_members xs ys n i i' a f r a' f' r' e =
    subst (λ (zs : List ℤ). (b : Ascends zs) (g : length zs ≤ most_members) (s : AreInReach zs) → explicit xs n i a f r ≡ explicit zs n i' b g s) e
    (λ b g s. same_facts xs n i i' a b f g r s) a' f' r'

same_sets : (xs ys : List ℤ) (n m : ℕ) (i : n ≡ most_members) (k : m ≡ most_members) (a : Ascends xs) (f : length xs ≤ most_members) (r : AreInReach xs) (a' : Ascends ys) (f' : length ys ≤ most_members) (r' : AreInReach ys)
    → xs ≡ ys → explicit xs n i a f r ≡ explicit ys m k a' f' r'
same_sets xs ys n m i k a f r a' f' r' e =
    subst (λ (j : ℕ). (l : j ≡ most_members) → explicit xs n i a f r ≡ explicit ys j l a' f' r') (i ∙ sym k)
    (λ l. same_members xs ys n i l a f r a' f' r' e) k

within : (s t : Explicit) → ValsBelow (Few s) (Few t) → Within s.items.items t.items.items
within s t h v k = in_list t.items.items v (h v (in_contains s.items.items v k))

few_same : (s t : Explicit) → ValsBelow (Few s) (Few t) → ValsBelow (Few t) (Few s) → s ≡ t
few_same s t h k = same_sets s.items.items t.items.items s.items.capacity t.items.capacity s.inline t.inline s.ascending s.few s.reach t.ascending t.few t.reach
    (same_list s.items.items t.items.items (rises s.items.items s.ascending) (rises t.items.items t.ascending) (within s t h) (within t s k))

fewer : (s t : Explicit) → ValsBelow (Few s) (Few t) → (s ≡ t → ⊥) → length s.items.items < length t.items.items
fewer s t h other =
    let rs = rises s.items.items s.ascending in
    let rt = rises t.items.items t.ascending in
    ⊎_elim
    (λ (less : length s.items.items < length t.items.items). less)
    (λ (more : length t.items.items ≤ length s.items.items).
    let back = no_more s.items.items t.items.items rs rt (within s t h) more in
    absurd (other (few_same s t h (λ v k. in_contains s.items.items v (back v (in_list t.items.items v k))))))
    (cases_lt (length s.items.items) (length t.items.items))

-- a range is known by its sign and its bits

abbrev range : Global → (s : Bool) (b : ℕ) → most_members < 2 ^ b → b ≤ most_bits s → Range
range alloc s b m f = record { signed = s; bits = b; alloc = alloc; many = m; few = f }

many_prop : (b : ℕ) (p q : most_members < 2 ^ b) → p ≡ q
many_prop b = hlevel (T_prop, le_prop)

bits_prop : (s : Bool) (b : ℕ) (p q : b ≤ most_bits s) → p ≡ q
bits_prop s b = hlevel (T_prop, le_prop)

same_range : (alloc other : Global) (s : Bool) (b : ℕ) (m m' : most_members < 2 ^ b) (f f' : b ≤ most_bits s) → range alloc s b m f ≡ range other s b m' f'
same_range alloc other s b m m' f f' = ap (λ p. range alloc s b p f) (many_prop b m m') ∙ ap (λ p. range other s b m' p) (bits_prop s b f f')

same_bits : (alloc other : Global) (s s' : Bool) (b b' : ℕ) (m : most_members < 2 ^ b) (f : b ≤ most_bits s) (m' : most_members < 2 ^ b') (f' : b' ≤ most_bits s') → s ≡ s' → b ≡ b' → range alloc s b m f ≡ range other s' b' m' f'
same_bits alloc other s s' b b' m f m' f' e g =
    subst (λ (x : Bool). (h : b' ≤ most_bits x) → range alloc s b m f ≡ range other x b' m' h) e
    (subst (λ (x : ℕ). (n : most_members < 2 ^ x) (h : x ≤ most_bits s) → range alloc s b m f ≡ range other s x n h) g (λ n h. same_range alloc other s b m n f h) m')
    f'

no_less : (a b : ℕ) → 2 ^ a ≤ 2 ^ b → a ≤ b
no_less a b h = ⊎_elim (λ (less : b < a). let p : 2 ^ b < 2 ^ a = pow-lt less in absurd (omega arith)) (λ (k : a ≤ b). k) (cases_lt b a)

-- of two ranges, where the ends of the one lie within those of the other: it has fewer bits, or is the other
by_bits : (s s' : Bool) (b b' : ℕ) → 0 < b → 0 < b' → least_of_bits s' b' ≤ℤ least_of_bits s b → most_of_bits s b ≤ℤ most_of_bits s' b' → (b < b') ⊎ ((s ≡ s') × (b ≡ b'))
by_bits true true b b' z z' h k =
    let p = no_less (b - 1) (b' - 1) (omega (arith, ints)) in
    ⊎_elim (λ (less : b < b'). inl less) (λ (more : b' ≤ b). inr (refl, omega arith)) (cases_lt b b')
by_bits true false b b' z z' h k = let some = pow_pos (b - 1) in absurd (omega (arith, ints))
by_bits false true b b' z z' h k =
    let some = pow_pos b in
    let some' = pow_pos (b' - 1) in
    let p = no_less b (b' - 1) (omega (arith, ints)) in
    inl (omega arith)
by_bits false false b b' z z' h k =
    let some = pow_pos b in
    let some' = pow_pos b' in
    let p = no_less b b' (omega (arith, ints)) in
    ⊎_elim (λ (less : b < b'). inl less) (λ (more : b' ≤ b). inr (refl, omega arith)) (cases_lt b b')

some_bits : (b : ℕ) → most_members < 2 ^ b → 0 < b
some_bits zero h = absurd (omega arith)
some_bits (suc b) h = omega arith

inner : (r q : Range) → ValsBelow (Many r) (Many q) → (low_of q ≤ℤ low_of r) × (high_of r ≤ℤ high_of q)
inner r q h = ((h (low_of r) (≤ℤ_refl (low_of r), range_ordered r)).0, (h (high_of r) (range_ordered r, ≤ℤ_refl (high_of r))).1)

many_bits : (r q : Range) → ValsBelow (Many r) (Many q) → (r.bits < q.bits) ⊎ (r ≡ q)
many_bits r q h =
    let e = inner r q h in
    ⊎_elim
    (λ (less : r.bits < q.bits). inl less)
    (λ (same : (r.signed ≡ q.signed) × (r.bits ≡ q.bits)). inr (same_bits r.alloc q.alloc r.signed q.signed r.bits q.bits r.many r.few q.many q.few same.0 same.1))
    (by_bits r.signed q.signed r.bits q.bits (some_bits r.bits r.many) (some_bits q.bits q.many) e.0 e.1)

many_same : (r q : Range) → ValsBelow (Many r) (Many q) → ValsBelow (Many q) (Many r) → r ≡ q
many_same r q h k = ⊎_elim
    (λ (less : r.bits < q.bits). ⊎_elim (λ (more : q.bits < r.bits). absurd (omega arith)) (λ (same : q ≡ r). sym same) (many_bits q r k))
    (λ (same : r ≡ q). same)
    (many_bits r q h)

pub sets_same : (x y : Vals) → ValsBelow x y → ValsBelow y x → x ≡ y
sets_same (Few s) (Few t) h k = ap Few (few_same s t h k)
sets_same (Few s) (Many r) h k = absurd (not_few r s k)
sets_same (Many r) (Few s) h k = absurd (not_few r s h)
sets_same (Many r) (Many q) h k = ap Many (many_same r q h k)

-- members and room

pub set_members_ascend : (x : Vals) → IfSome (vals_members x) Ascends
set_members_ascend (Few s) = s.ascending
set_members_ascend (Many r) = tt

pub set_members_all : (x : Vals) → IfSome (vals_members x) (λ vs. (v : ℤ) → (Contains vs v → ValsHas x v) × (ValsHas x v → Contains vs v))
set_members_all (Few s) = λ v. ((λ h. h), (λ h. h))
set_members_all (Many r) = tt

pub set_room : (x : Vals) → vals_room x ≤ 2 ^ 70
set_room (Few s) = omega arith
set_room (Many r) = omega arith

seven_bits : (b : ℕ) → most_members < 2 ^ b → 7 ≤ b
seven_bits b h = ⊎_elim (λ (less : b < 7). let l : b ≤ 6 = omega arith in let p : 2 ^ b ≤ 2 ^ 6 = pow_mono l in absurd (omega arith)) (λ (k : 7 ≤ b). k) (cases_lt b 7)

most_is : (s : Bool) → most_bits s ≤ 65
most_is true = omega arith
most_is false = omega arith

pub set_room_falls : (x y : Vals) → ValsBelow x y → x ≢ y → vals_room y < vals_room x
set_room_falls (Few s) (Few t) h other =
    let l = fewer s t h (λ e. other (ap Few e)) in
    let f = t.few in
    omega (arith, l, f)
set_room_falls (Few s) (Many r) h other = let seven = seven_bits r.bits r.many in omega arith
set_room_falls (Many r) (Few s) h other = absurd (not_few r s h)
set_room_falls (Many r) (Many q) h other = ⊎_elim
    (λ (less : r.bits < q.bits). let f = q.few in let m = most_is q.signed in omega (arith, less, f, m))
    (λ (same : r ≡ q). absurd (other (ap Many same)))
    (many_bits r q h)
