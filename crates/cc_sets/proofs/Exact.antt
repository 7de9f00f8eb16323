-- Some hulls, worked out.
use Rattle.std.proofs.Common.{◌≡◌, ◌⊎◌, ◌∙◌, ℕ, ◌-◌, ◌<◌, ◌*◌, ap₂, pow_mono, pow_pos, ◌^◌, ◌≤◌, Bool, true, false, ℤ, pos, ◌≤ℤ◌, List, [], ◌∷◌, Option, Some, None, refl, sym, ap, subst, inl, inr, ⊎_elim, arith}
use Rattle.std.specs.Global.{Global}
use Rattle.std.specs.List.{Contains}
use Rattle.std.specs.Int.Signed.{≤ℤ_refl}
use Rattle.std.proofs.lemmas.Int.{ints}
use Rattle.std.proofs.lemmas.Bool.{cases_lt}
use Rattle.cc_num.specs.declared.int_type.IntType.TheVariants as int
use Rattle.cc_num.specs.declared.target.Target.{Target}
use Rattle.cc_num.specs.declared.op.BinOp.TheVariants as op
use Rattle.cc_num.specs.Integers.{IsValueOf, most_of, least_of_bits, most_of_bits}
use Rattle.cc_num.specs.Results.{result_of}
use Rattle.cc_num.proofs.Conversions.{int_bytes_is}
use Rattle.cc_num.proofs.ResultLaws.{least_low, represented_same}
use Rattle.cc_lattice.specs.Domains.{passes, IsInReach}
use Rattle.cc_explicit.specs.Sets.{most_members}
use Rattle.cc_explicit.specs.declared.explicit.Explicit.{Explicit}
use Rattle.cc_explicit.proofs.Lists.{In, in_list, in_contains, rises, ascends, no_longer}
use Rattle.cc_sets.specs.declared.range.Range.{Range}
use Rattle.cc_sets.specs.declared.vals.Vals.{Vals}
use Rattle.cc_sets.specs.declared.vals.Vals.TheVariants.{Few, Many}
use Rattle.cc_sets.specs.Ranges.{numbers_from}
use Rattle.cc_sets.specs.Results.{OpResult, IsKept, PassesSome}
use Rattle.cc_sets.specs.Rungs.{low_of, high_of, ValsHas, IsHull, vals_members, vals_ends}
use Rattle.cc_sets.specs.laws.Ends.{range_ordered}
use Rattle.cc_sets.specs.laws.RungLaws.{sets_same}
use Rattle.cc_sets.specs.laws.Runs.{run_between, run_rises, length_run, with_one}

-- a set that is known by its members
explicit_of : (x : Vals) (xs : List ℤ) → vals_members x ≡ Some xs → (s : Explicit) × (x ≡ Few s) × (s.items.items ≡ xs)
explicit_of (Few s) xs e = let f : Some s.items.items ≡ Some xs = e in (s, refl, cc)
explicit_of (Many r) xs e = let f : None ≡ Some xs = e in cc

-- a hull of the numbers of an explicit set
hull_is : (P : ℤ → Type 0) (r : Vals) (s : Explicit) → IsHull P r → ((v : ℤ) → P v → Contains s.items.items v) → ((v : ℤ) → Contains s.items.items v → P v) → vals_members r ≡ Some s.items.items
hull_is P r s p to back = ap vals_members (sets_same r (Few s) (p.least (Few s) to) (λ v h. p.covers v (back v h)))

alone : (n : ℕ) → n ≤ 100 → Explicit
alone n l = record {
  items = record { items = pos n ∷ []; capacity = most_members };
  inline = refl;
  ascending = ascends (pos n ∷ []) ((λ v t. absurd t), tt);
  few = omega arith;
  reach = λ v h. ⊎_elim (λ (e : pos n ≡ v). subst IsInReach e (record { least = omega (arith, ints); most = omega (arith, ints) })) (λ (t : In v []). absurd t) (in_list (pos n ∷ []) v h);
}

-- 10 / 0 traps, and 10 / 5 is 2

int_two : (target : Target) → IsValueOf int.Int target (pos 2)
int_two target =
    let l = least_low int.Int target in
    let m : pos 2 ≤ℤ most_of int.Int target = ⊎_elim
    (λ (e : target.int_bytes ≡ 2). subst (λ (n : ℕ). pos 2 ≤ℤ most_of_bits true (8 * n)) (sym e) (omega (arith, ints)))
    (λ (e : target.int_bytes ≡ 4). subst (λ (n : ℕ). pos 2 ≤ℤ most_of_bits true (8 * n)) (sym e) (omega (arith, ints)))
    (int_bytes_is target) in
    record { least = omega (arith, ints); most = m }

ten_by_five : (target : Target) → result_of op.Div (pos 10) (pos 5) int.Int target ≡ Some (pos 2)
unfolding result_of
ten_by_five target = represented_same (pos 2) int.Int target (int_two target)

ten_by_zero : (target : Target) → result_of op.Div (pos 10) (pos 0) int.Int target ≡ None
unfolding result_of
ten_by_zero target = refl

some_same : (r : Option ℤ) (x z : ℤ) → r ≡ Some x → r ≡ Some z → x ≡ z
some_same r x z e f = let g : Some x ≡ Some z = sym e ∙ f in cc

by_divisor : (w z : ℤ) (target : Target) → In w (pos 0 ∷ pos 5 ∷ []) → result_of op.Div (pos 10) w int.Int target ≡ Some z → pos 2 ≡ z
by_divisor w z target h e = ⊎_elim
    (λ (f : pos 0 ≡ w). let g : None ≡ Some z = sym (ten_by_zero target) ∙ subst (λ (x : ℤ). result_of op.Div (pos 10) x int.Int target ≡ Some z) (sym f) e in absurd (none g))
    (λ (t : In w (pos 5 ∷ [])). ⊎_elim
    (λ (f : pos 5 ≡ w). some_same (result_of op.Div (pos 10) (pos 5) int.Int target) (pos 2) z (ten_by_five target) (subst (λ (x : ℤ). result_of op.Div (pos 10) x int.Int target ≡ Some z) (sym f) e))
    (λ (u : In w []). absurd u)
    t)
    h
  where
    none : {y : ℤ} → None ≡ Some y → ⊥
    none g = cc

only : (n : ℕ) (v : ℤ) (xs : List ℤ) → xs ≡ pos n ∷ [] → Contains xs v → pos n ≡ v
only n v xs e h = ⊎_elim (λ (f : pos n ≡ v). f) (λ (t : In v []). absurd t) (in_list (pos n ∷ []) v (subst (λ (ys : List ℤ). Contains ys v) e h))

quotients : (s q : Explicit) (r : Vals) (target : Target) → s.items.items ≡ pos 10 ∷ [] → q.items.items ≡ pos 0 ∷ pos 5 ∷ [] → IsHull (OpResult op.Div (Few s) (Few q) int.Int target) r → vals_members r ≡ Some (pos 2 ∷ [])
unfolding alone
quotients s q r target e f p = hull_is (OpResult op.Div (Few s) (Few q) int.Int target) r (alone 2 (omega arith)) p
    (λ z h. in_contains (pos 2 ∷ []) z (inl (by_divisor h.1 z target
    (in_list (pos 0 ∷ pos 5 ∷ []) h.1 (subst (λ (ys : List ℤ). Contains ys h.1) f h.3))
    (subst (λ (x : ℤ). result_of op.Div x h.1 int.Int target ≡ Some z) (sym (only 10 h.0 s.items.items e h.2)) h.4))))
    (λ z h. (
      pos 10,
      pos 5,
      subst (λ (ys : List ℤ). Contains ys (pos 10)) (sym e) (in_contains (pos 10 ∷ []) (pos 10) (inl refl)),
      subst (λ (ys : List ℤ). Contains ys (pos 5)) (sym f) (in_contains (pos 0 ∷ pos 5 ∷ []) (pos 5) (inr (inl refl))),
      ten_by_five target ∙ ap Some (only 2 z (pos 2 ∷ []) refl h),
    ))

pub zero_divisor : (a b r : Vals) (target : Target) → vals_members a ≡ Some (pos 10 ∷ []) → vals_members b ≡ Some (pos 0 ∷ pos 5 ∷ []) → IsHull (OpResult op.Div a b int.Int target) r → vals_members r ≡ Some (pos 2 ∷ [])
zero_divisor a b r target e f p =
    let x = explicit_of a (pos 10 ∷ []) e in
    let y = explicit_of b (pos 0 ∷ pos 5 ∷ []) f in
    quotients x.0 y.0 r target x.2 y.2
    (subst (λ (u : Vals). IsHull (OpResult op.Div (Few x.0) u int.Int target) r) y.1 (subst (λ (u : Vals). IsHull (OpResult op.Div u b int.Int target) r) x.1 p))

-- of 1 and 3 only 1 is not equal to 3

other_than_three : (s q : Explicit) (r : Vals) → s.items.items ≡ pos 1 ∷ pos 3 ∷ [] → q.items.items ≡ pos 3 ∷ [] → IsHull (IsKept op.Ne (Few s) (Few q)) r → vals_members r ≡ Some (pos 1 ∷ [])
unfolding alone
other_than_three s q r e f p = hull_is (IsKept op.Ne (Few s) (Few q)) r (alone 1 (omega arith)) p
    (λ v h. in_contains (pos 1 ∷ []) v (inl (by_member v (in_list (pos 1 ∷ pos 3 ∷ []) v (subst (λ (ys : List ℤ). Contains ys v) e h.0)) (passed v h.1))))
    (λ v h. let g = only 1 v (pos 1 ∷ []) refl h in subst (λ (x : ℤ). IsKept op.Ne (Few s) (Few q) x) g (
      subst (λ (ys : List ℤ). Contains ys (pos 1)) (sym e) (in_contains (pos 1 ∷ pos 3 ∷ []) (pos 1) (inl refl)),
      (pos 3, subst (λ (ys : List ℤ). Contains ys (pos 3)) (sym f) (in_contains (pos 3 ∷ []) (pos 3) (inl refl)), refl),
    ))
  where
    passed : (v : ℤ) → PassesSome op.Ne v (Few q) → passes op.Ne v (pos 3) ≡ true
    passed v h = subst (λ (w : ℤ). passes op.Ne v w ≡ true) (sym (only 3 h.0 q.items.items f h.1)) h.2

    not_three : (v : ℤ) → pos 3 ≡ v → passes op.Ne v (pos 3) ≡ true → ⊥
    not_three v g k = let m : false ≡ true = subst (λ (x : ℤ). passes op.Ne x (pos 3) ≡ true) (sym g) k in cc

    by_member : (v : ℤ) → In v (pos 1 ∷ pos 3 ∷ []) → passes op.Ne v (pos 3) ≡ true → pos 1 ≡ v
    by_member v h k = ⊎_elim
        (λ (g : pos 1 ≡ v). g)
        (λ (t : In v (pos 3 ∷ [])). ⊎_elim (λ (g : pos 3 ≡ v). absurd (not_three v g k)) (λ (u : In v []). absurd u) t)
        h

pub kept_of_two : (a b r : Vals) → vals_members a ≡ Some (pos 1 ∷ pos 3 ∷ []) → vals_members b ≡ Some (pos 3 ∷ []) → IsHull (IsKept op.Ne a b) r → vals_members r ≡ Some (pos 1 ∷ [])
kept_of_two a b r e f p =
    let x = explicit_of a (pos 1 ∷ pos 3 ∷ []) e in
    let y = explicit_of b (pos 3 ∷ []) f in
    other_than_three x.0 y.0 r x.2 y.2
    (subst (λ (u : Vals). IsHull (IsKept op.Ne (Few x.0) u) r) y.1 (subst (λ (u : Vals). IsHull (IsKept op.Ne u b) r) x.1 p))

-- the numbers from 0 to 63, and 80, are more than 64

abbrev seven : Global → Range
seven alloc = record { signed = false; bits = 7; alloc = alloc; many = omega arith; few = omega arith }

high_seven : (s : Bool) (b : ℕ) → pos 0 ≤ℤ least_of_bits s b → pos 80 ≤ℤ most_of_bits s b → most_of_bits s b ≤ℤ pos 127 → (least_of_bits s b ≡ pos 0) × (most_of_bits s b ≡ pos 127)
high_seven true b h k l = let some = pow_pos (b - 1) in absurd (omega (arith, ints))
high_seven false b h k l = ⊎_elim
    (λ (less : b < 7). let m : b ≤ 6 = omega arith in let p : 2 ^ b ≤ 2 ^ 6 = pow_mono m in absurd (omega (arith, ints)))
    (λ (more : 7 ≤ b). let p : 2 ^ 7 ≤ 2 ^ b = pow_mono more in (refl, omega (arith, ints)))
    (cases_lt b 7)

joined_range : (s q : Explicit) (r : Vals) → s.items.items ≡ numbers_from (pos 0) 64 → q.items.items ≡ pos 80 ∷ [] → IsHull (λ v. ValsHas (Few s) v ⊎ ValsHas (Few q) v) r → vals_ends r ≡ Some (pos 0, pos 127)
joined_range s q (Few t) e f p =
    let more = with_one (numbers_from (pos 0) 64) (pos 80) (run_rises (pos 0) 64) (λ h. let k = run_between (pos 0) 64 (pos 80) h in let k1 = k.1 in absurd (omega (arith, ints))) in
    let n = more.2 in
    let m = length_run (pos 0) 64 in
    let few = t.few in
    let l = no_longer more.0 t.items.items more.1 (rises t.items.items t.ascending)
    (λ v h. in_list t.items.items v (⊎_elim
    (λ (g : v ≡ pos 80). subst (Contains t.items.items) (sym g) (p.covers (pos 80) (inr (subst (λ (ys : List ℤ). Contains ys (pos 80)) (sym f) (in_contains (pos 80 ∷ []) (pos 80) (inl refl))))))
    (λ (u : In v (numbers_from (pos 0) 64)). p.covers v (inl (subst (λ (ys : List ℤ). Contains ys v) (sym e) (in_contains (numbers_from (pos 0) 64) v u))))
    (more.3 v h))) in
    absurd (omega (arith, n, m, few, l))
joined_range s q (Many t) e f p =
    let below = p.least (Many (seven t.alloc)) (λ v h. ⊎_elim
    (λ (k : Contains s.items.items v). let b = run_between (pos 0) 64 v (in_list (numbers_from (pos 0) 64) v (subst (λ (ys : List ℤ). Contains ys v) e k)) in let b0 = b.0 in let b1 = b.1 in (b0, omega (arith, ints)))
    (λ (k : Contains q.items.items v). let g = only 80 v q.items.items f k in (omega (arith, ints), omega (arith, ints)))
    h) in
    let low = (below (low_of t) (≤ℤ_refl (low_of t), range_ordered t)).0 in
    let high = (below (high_of t) (range_ordered t, ≤ℤ_refl (high_of t))).1 in
    let last = (p.covers (pos 80) (inr (subst (λ (ys : List ℤ). Contains ys (pos 80)) (sym f) (in_contains (pos 80 ∷ []) (pos 80) (inl refl))))).1 in
    let ends = high_seven t.signed t.bits low last high in
    ap₂ (λ x y. Some (x, y)) ends.0 ends.1

pub too_many : (a b r : Vals) → vals_members a ≡ Some (numbers_from (pos 0) 64) → vals_members b ≡ Some (pos 80 ∷ []) → IsHull (λ v. ValsHas a v ⊎ ValsHas b v) r → vals_ends r ≡ Some (pos 0, pos 127)
too_many a b r e f p =
    let x = explicit_of a (numbers_from (pos 0) 64) e in
    let y = explicit_of b (pos 80 ∷ []) f in
    joined_range x.0 y.0 r x.2 y.2
    (subst (λ (u : Vals). IsHull (λ v. ValsHas (Few x.0) v ⊎ ValsHas u v) r) y.1 (subst (λ (u : Vals). IsHull (λ v. ValsHas u v ⊎ ValsHas b v) r) x.1 p))
