-- Sets are known by their members: a comparison of two gives what members of them give, and one whose members have a type stays what it is
-- when it is converted to that type.
use Rattle.std.specs.Prelude.{◌≡◌, ◌⊎◌, ◌↔◌, Bool, true, false, ℤ, pos, ◌≤ℤ◌, ◌<ℤ◌, List, [], ◌∷◌, Some, None}
use Rattle.std.specs.Int.{int_max}
use Rattle.std.specs.List.{Contains}
use Rattle.std.specs.Option.{IfSome}
use Rattle.std.proofs.Common.{refl, sym, ap, ◌∙◌, subst, inl, inr, ⊎_elim, arith}
use Rattle.std.proofs.lemmas.Int.{ints, clamps, by_lt_z}
use Rattle.std.proofs.lemmas.Option.{same_Some}
use Rattle.cc_num.specs.declared.int_type.IntType.{IntType}
use Rattle.cc_num.specs.declared.int_type.IntType.TheVariants as int
use Rattle.cc_num.specs.declared.target.Target.{Target}
use Rattle.cc_num.specs.declared.op.BinOp.{BinOp}
use Rattle.cc_num.specs.Integers.{IsValueOf}
use Rattle.cc_num.specs.Results.{one_if, result_of}
use Rattle.cc_num.proofs.Conversions.{converted-same}
use Rattle.cc_num.proofs.ResultLaws.{truth_value}
use Rattle.cc_lattice.specs.Domains.{AreEnds, AreMatched, AreOperands, IsAtMostOne, IsInReach, IsResultOf, is_comparison, is_order, passes}
use Rattle.cc_lattice.proofs.IntValues.{passing}
use Rattle.cc_ranges.specs.Ends.{Ends, EndsHave}
use Rattle.cc_ranges.specs.Rules.{op_ends}
use Rattle.cc_ranges.specs.laws.ToldRules.{HaveCommon, IsTold, rule_told, told_result, conversion_kept}
use Rattle.cc_explicit.specs.Sets.{most_members}
use Rattle.cc_explicit.specs.declared.explicit.Explicit.{Explicit}
use Rattle.cc_explicit.proofs.Lists.{In, in_list, in_contains, ascends}
use Rattle.cc_sets.specs.declared.range.Range.{Range}
use Rattle.cc_sets.specs.declared.vals.Vals.{Vals}
use Rattle.cc_sets.specs.declared.vals.Vals.TheVariants.{Few, Many}
use Rattle.cc_sets.specs.Results.{OpResult, IsConverted}
use Rattle.cc_sets.specs.Rungs.{low_of, high_of, ValsHas, ValsBelow, IsHull, vals_members, vals_ends}
use Rattle.cc_sets.specs.laws.Ends.{range_spread, range_ordered, set_ends, set_reach}
use Rattle.cc_sets.specs.laws.RungLaws.{not_few, sets_same}
use Rattle.cc_sets.specs.laws.TypedSets.{hull_typed}

-- The hull of some of the numbers 0 and 1 has no others, where it is known which of them they are.

single : (v : ℤ) → IsInReach v → Vals
single v r = Few (record {
  items = record { items = v ∷ []; capacity = most_members };
  inline = refl;
  ascending = ascends (v ∷ []) ((λ w t. absurd t), tt);
  few = omega arith;
  reach = λ w h. ⊎_elim (λ (e : v ≡ w). subst IsInReach e r) (λ u. absurd u) (in_list (v ∷ []) w h);
})

single_has : (v : ℤ) (r : IsInReach v) (w : ℤ) → v ≡ w → ValsHas (single v r) w
unfolding single
single_has v r w e = in_contains (v ∷ []) w (inl e)

single_only : (v : ℤ) (r : IsInReach v) (w : ℤ) → ValsHas (single v r) w → v ≡ w
unfolding single
single_only v r w h = ⊎_elim (λ (e : v ≡ w). e) (λ u. absurd u) (in_list (v ∷ []) w h)

small : (v : ℤ) → pos 0 ≤ℤ v → v ≤ℤ pos 1 → IsInReach v
small v h k = record { least = omega (arith, ints); most = omega (arith, ints) }

module _ (P : ℤ → Type 0) (r : Vals) (hull : IsHull P r) where
  -- a number that is not the one that all of them are
  not_there : (v : ℤ) → IsInReach v → ((z : ℤ) → P z → v ≡ z) → (z : ℤ) → ValsHas r z → v ≡ z
  not_there v there all z h = single_only v there z (hull.least (single v there) (λ w p. single_has v there w (all w p)) z h)

  module _ (truths : (z : ℤ) → P z → (z ≡ pos 0) ⊎ (z ≡ pos 1)) (known : (z : ℤ) → P z ⊎ (P z → ⊥)) where
    one_of : (z : ℤ) → ValsHas r z → (P (pos 0) → ⊥) → z ≡ pos 1
    one_of z h never = sym (not_there (pos 1) (small (pos 1) (omega (arith, ints)) (omega (arith, ints)))
        (λ w p. ⊎_elim (λ (e : w ≡ pos 0). absurd (never (subst P e p))) (λ (e : w ≡ pos 1). sym e) (truths w p)) z h)

    zero_of : (z : ℤ) → ValsHas r z → (P (pos 1) → ⊥) → z ≡ pos 0
    zero_of z h never = sym (not_there (pos 0) (small (pos 0) (omega (arith, ints)) (omega (arith, ints)))
        (λ w p. ⊎_elim (λ (e : w ≡ pos 0). sym e) (λ (e : w ≡ pos 1). absurd (never (subst P e p))) (truths w p)) z h)

    neither : (z : ℤ) → ValsHas r z → (P (pos 0) → ⊥) → (P (pos 1) → ⊥) → P z
    neither z h never never' = let a = one_of z h never in let b = zero_of z h never' in let n : pos 0 ≡ pos 1 = sym b ∙ a in cc

    either_of : P (pos 0) → P (pos 1) → (z : ℤ) → pos 0 ≤ℤ z → z ≤ℤ pos 1 → P z
    either_of p q z h k = by_lt_z (pos 0) z
        (λ (up : pos 0 <ℤ z). let e : pos 1 ≡ z = omega (arith, ints) in subst P e q)
        (λ (down : z ≤ℤ pos 0). let e : pos 0 ≡ z = omega (arith, ints) in subst P e p)

    typed : (target : Target) (z : ℤ) → P z → IsValueOf int.Bool target z
    typed target z p = ⊎_elim (λ (e : z ≡ pos 0). subst (IsValueOf int.Bool target) (sym e) (truth_value false int.Bool target))
        (λ (e : z ≡ pos 1). subst (IsValueOf int.Bool target) (sym e) (truth_value true int.Bool target)) (truths z p)

    hull_has : Target → (z : ℤ) → ValsHas r z → P z
    hull_has target z h = ⊎_elim
        (λ (p : P (pos 0)). ⊎_elim
        (λ (q : P (pos 1)). let b = hull_typed P r int.Bool target hull (typed target) z h in either_of p q z b.least b.most)
        (λ (never : P (pos 1) → ⊥). subst P (sym (zero_of z h never)) p)
        (known (pos 1)))
        (λ (never : P (pos 0) → ⊥). ⊎_elim
        (λ (q : P (pos 1)). subst P (sym (one_of z h never)) q)
        (λ (never' : P (pos 1) → ⊥). neither z h never never')
        (known (pos 1)))
        (known (pos 0))

-- It is known whether a number is between two ends, and whether a comparison gives it of some members of two lists.

within_known : (e : Ends) (z : ℤ) → EndsHave e z ⊎ (EndsHave e z → ⊥)
within_known None z = inr (λ h. h)
within_known (Some (low, high)) z = by_lt_z z low
    (λ (less : z <ℤ low). inr (λ h. let a = h.0 in omega (arith, ints)))
    (λ (up : low ≤ℤ z). by_lt_z high z
    (λ (more : high <ℤ z). inr (λ h. let b = h.1 in omega (arith, ints)))
    (λ (down : z ≤ℤ high). inl (up, down)))

same_known : (v z : ℤ) → (v ≡ z) ⊎ (v ≡ z → ⊥)
same_known v z = by_lt_z v z
    (λ (less : v <ℤ z). inr (λ e. omega (arith, ints)))
    (λ (up : z ≤ℤ v). by_lt_z z v (λ (more : z <ℤ v). inr (λ e. omega (arith, ints))) (λ (down : v ≤ℤ z). inl (omega (arith, ints))))

abbrev HasSome : (ℤ → Type 0) → List ℤ → Type 0
HasSome Q xs = (v : ℤ) × In v xs × Q v

some_known : (Q : ℤ → Type 0) → ((v : ℤ) → Q v ⊎ (Q v → ⊥)) → (xs : List ℤ) → HasSome Q xs ⊎ (HasSome Q xs → ⊥)
some_known Q known [] = inr (λ h. h.1)
some_known Q known (x ∷ xs) = ⊎_elim
    (λ (q : Q x). inl (x, inl refl, q))
    (λ (never : Q x → ⊥). ⊎_elim
    (λ (t : HasSome Q xs). inl (t.0, inr t.1, t.2))
    (λ (none : HasSome Q xs → ⊥). inr (λ t. ⊎_elim (λ (e : x ≡ t.0). never (subst Q (sym e) t.2)) (λ (i : In t.0 xs). none (t.0, i, t.2)) t.1))
    (some_known Q known xs))
    (known x)

module _ (o : BinOp) (t : IntType) (target : Target) (c : is_comparison o ≡ true) where
  gives_known : (v w z : ℤ) → (result_of o v w t target ≡ Some z) ⊎ (result_of o v w t target ≡ Some z → ⊥)
  gives_known v w z = ⊎_elim
      (λ (e : one_if (passes o v w) ≡ z). inl (passing o v w t target c ∙ ap Some e))
      (λ (never : one_if (passes o v w) ≡ z → ⊥). inr (λ e. never (same_Some (one_if (passes o v w)) z (sym (passing o v w t target c) ∙ e))))
      (same_known (one_if (passes o v w)) z)

  few_known : (a b : Explicit) (z : ℤ) → OpResult o (Few a) (Few b) t target z ⊎ (OpResult o (Few a) (Few b) t target z → ⊥)
  few_known a b z = ⊎_elim
      (λ (h : HasSome (λ v. HasSome (λ w. result_of o v w t target ≡ Some z) b.items.items) a.items.items).
      let k = h.2 in inl (h.0, k.0, in_contains a.items.items h.0 h.1, in_contains b.items.items k.0 k.1, k.2))
      (λ (none : HasSome (λ v. HasSome (λ w. result_of o v w t target ≡ Some z) b.items.items) a.items.items → ⊥).
      inr (λ p. none (p.0, in_list a.items.items p.0 p.2, (p.1, in_list b.items.items p.1 p.3, p.4))))
      (some_known (λ v. HasSome (λ w. result_of o v w t target ≡ Some z) b.items.items)
      (λ v. some_known (λ w. result_of o v w t target ≡ Some z) (λ w. gives_known v w z) b.items.items) a.items.items)

  result_known : (a b : Vals) (z : ℤ) → OpResult o a b t target z ⊎ (OpResult o a b t target z → ⊥)
  result_known (Few a) (Few b) z = few_known a b z
  result_known (Few a) (Many b) z = within_known (op_ends o (vals_ends (Few a)) (vals_ends (Many b)) t target) z
  result_known (Many a) (Few b) z = within_known (op_ends o (vals_ends (Many a)) (vals_ends (Few b)) t target) z
  result_known (Many a) (Many b) z = within_known (op_ends o (vals_ends (Many a)) (vals_ends (Many b)) t target) z

-- Members that two sets have in common, where their ends overlap.

abbrev Overlap : Ends → Ends → Type 0
Overlap (Some (la, ha)) (Some (lb, hb)) = (lb ≤ℤ ha) × (la ≤ℤ hb)
Overlap _ _ = ⊥

one_meets : (P : ℤ → Type 0) (e : Ends) (r : Range) → IfSome e (AreEnds P) → IsAtMostOne P → Overlap e (vals_ends (Many r)) → HaveCommon P (ValsHas (Many r))
one_meets P None r p one h = absurd h
one_meets P (Some (low, high)) r p one h =
    let e = one low high p.low_in p.high_in in
    (low, p.low_in, (subst (λ (x : ℤ). low_of r ≤ℤ x) (sym e) h.0, h.1))

ranges_meet : (r q : Range) → Overlap (vals_ends (Many r)) (vals_ends (Many q)) → HaveCommon (ValsHas (Many r)) (ValsHas (Many q))
ranges_meet r q h =
    let a = range_ordered r in let b = range_ordered q in let x = h.0 in let y = h.1 in
    (int_max (low_of r) (low_of q), (omega (arith, ints, clamps), omega (arith, ints, clamps)), (omega (arith, ints, clamps), omega (arith, ints, clamps)))

more_than_one : (r : Range) → IsAtMostOne (ValsHas (Many r)) → ⊥
more_than_one r one =
    let e = set_ends (Many r) in
    let same = one (low_of r) (high_of r) e.low_in e.high_in in
    let wide = (range_spread r).wide in
    omega (arith, ints)

turned : (P Q : ℤ → Type 0) → HaveCommon Q P → HaveCommon P Q
turned P Q h = (h.0, h.2, h.1)

turned_overlap : (e f : Ends) → Overlap e f → Overlap f e
turned_overlap None f h = absurd h
turned_overlap (Some (la, ha)) None h = absurd h
turned_overlap (Some (la, ha)) (Some (lb, hb)) h = (h.1, h.0)

-- explicit sets need none, since what is given of them is given of members
abbrev Share : Vals → Vals → Type 0
Share (Few a) (Few b) = Unit {0}
Share (Few a) (Many b) = Overlap (vals_ends (Few a)) (vals_ends (Many b)) → HaveCommon (ValsHas (Few a)) (ValsHas (Many b))
Share (Many a) (Few b) = Overlap (vals_ends (Many a)) (vals_ends (Few b)) → HaveCommon (ValsHas (Many a)) (ValsHas (Few b))
Share (Many a) (Many b) = Overlap (vals_ends (Many a)) (vals_ends (Many b)) → HaveCommon (ValsHas (Many a)) (ValsHas (Many b))

matched_share : (a b : Vals) → AreMatched ValsHas vals_members a b → Share a b
matched_share (Few a) (Few b) m = tt
matched_share (Few a) (Many b) m = λ h. ⊎_elim
    (λ (alike : (vals_members (Few a) ≡ None) ↔ (vals_members (Many b) ≡ None)). let n : Some a.items.items ≡ None = alike.1 refl in cc)
    (λ (some : IsAtMostOne (ValsHas (Few a)) ⊎ IsAtMostOne (ValsHas (Many b))). ⊎_elim
    (λ (one : IsAtMostOne (ValsHas (Few a))). one_meets (ValsHas (Few a)) (vals_ends (Few a)) b (set_ends (Few a)) one h)
    (λ (one : IsAtMostOne (ValsHas (Many b))). absurd (more_than_one b one))
    some)
    m
matched_share (Many a) (Few b) m = λ h. ⊎_elim
    (λ (alike : (vals_members (Many a) ≡ None) ↔ (vals_members (Few b) ≡ None)). let n : Some b.items.items ≡ None = alike.0 refl in cc)
    (λ (some : IsAtMostOne (ValsHas (Many a)) ⊎ IsAtMostOne (ValsHas (Few b))). ⊎_elim
    (λ (one : IsAtMostOne (ValsHas (Many a))). absurd (more_than_one a one))
    (λ (one : IsAtMostOne (ValsHas (Few b))).
    turned (ValsHas (Many a)) (ValsHas (Few b)) (one_meets (ValsHas (Few b)) (vals_ends (Few b)) a (set_ends (Few b)) one (turned_overlap (vals_ends (Many a)) (vals_ends (Few b)) h)))
    some)
    m
matched_share (Many a) (Many b) m = ranges_meet a b

-- A comparison is told by members.

rule_told_by : (o : BinOp) (P Q : ℤ → Type 0) (e f : Ends) (t : IntType) (target : Target) (z : ℤ) → is_comparison o ≡ true → IfSome e (AreEnds P) → IfSome f (AreEnds Q)
    → (is_order o ≡ false → Overlap e f → HaveCommon P Q) → EndsHave (op_ends o e f t target) z → IsTold P Q o z
rule_told_by o P Q None f t target z c p q common h = absurd h
rule_told_by o P Q (Some (la, ha)) None t target z c p q common h = absurd h
rule_told_by o P Q (Some (la, ha)) (Some (lb, hb)) t target z c p q common h =
    rule_told o P Q la ha lb hb z t target c
    (record {
      low_in_left = p.low_in;
      high_in_left = p.high_in;
      low_in_right = q.low_in;
      high_in_right = q.high_in;
      left_ordered = p.low ha p.high_in;
      right_ordered = q.low hb q.high_in;
    })
    (λ n k l. common n (k, l)) h

result_told : (o : BinOp) (a b : Vals) (t : IntType) (target : Target) → is_comparison o ≡ true → (is_order o ≡ false → Share a b) → (z : ℤ) → OpResult o a b t target z → IsTold (ValsHas a) (ValsHas b) o z
result_told o (Few a) (Few b) t target c share z p =
    record { left = p.0; right = p.1; in_left = p.2; in_right = p.3; told = same_Some (one_if (passes o p.0 p.1)) z (sym (passing o p.0 p.1 t target c) ∙ p.4) }
result_told o (Few a) (Many b) t target c share z p =
    rule_told_by o (ValsHas (Few a)) (ValsHas (Many b)) (vals_ends (Few a)) (vals_ends (Many b)) t target z c (set_ends (Few a)) (set_ends (Many b)) share p
result_told o (Many a) (Few b) t target c share z p =
    rule_told_by o (ValsHas (Many a)) (ValsHas (Few b)) (vals_ends (Many a)) (vals_ends (Few b)) t target z c (set_ends (Many a)) (set_ends (Few b)) share p
result_told o (Many a) (Many b) t target c share z p =
    rule_told_by o (ValsHas (Many a)) (ValsHas (Many b)) (vals_ends (Many a)) (vals_ends (Many b)) t target z c (set_ends (Many a)) (set_ends (Many b)) share p

truth_of : (b : Bool) (z : ℤ) → one_if b ≡ z → (z ≡ pos 0) ⊎ (z ≡ pos 1)
truth_of true z e = inr (sym e)
truth_of false z e = inl (sym e)

shared : (o : BinOp) (a b : Vals) → (is_order o ≡ true) ⊎ AreMatched ValsHas vals_members a b → is_order o ≡ false → Share a b
shared o a b m e = ⊎_elim (λ (f : is_order o ≡ true). let n : true ≡ false = sym f ∙ e in cc) (λ (q : AreMatched ValsHas vals_members a b). matched_share a b q) m

pub set_comparison_told : (o : BinOp) (a b r : Vals) (t : IntType) (target : Target) → is_comparison o ≡ true → AreOperands ValsHas o a b t target → IsHull (OpResult o a b t target) r
    → (is_order o ≡ true) ⊎ AreMatched ValsHas vals_members a b → (z : ℤ) → ValsHas r z → IsResultOf ValsHas o a b t target z
set_comparison_told o a b r t target c k p m z h =
    let told = result_told o a b t target c (shared o a b m) in
    told_result o (ValsHas a) (ValsHas b) z t target c
    (told z (hull_has (OpResult o a b t target) r p (λ y q. let l = told y q in truth_of (passes o l.left l.right) y l.told) (result_known o t target c a b) target z h))

-- Conversions to a type that has all members.

converted_has : (a : Vals) (t : IntType) (target : Target) → ((v : ℤ) → ValsHas a v → IsValueOf t target v) → (z : ℤ) → IsConverted a t target z ↔ ValsHas a z
converted_has (Few a) t target h z = (
  λ p. subst (λ (y : ℤ). Contains a.items.items y) (sym (converted-same t target p.0 (h p.0 p.1)) ∙ p.2) p.1,
  λ m. (z, m, converted-same t target z (h z m)),
)
converted_has (Many r) t target h z =
    let e = set_ends (Many r) in
    let kept = conversion_kept (low_of r) (high_of r) t target (range_ordered r) (record { first = (h (low_of r) e.low_in).least; last = (h (high_of r) e.high_in).most }) in
    (λ p. subst (λ (x : Ends). EndsHave x z) kept p, λ m. subst (λ (x : Ends). EndsHave x z) (sym kept) m)

pub set_to_kept : (a r : Vals) (t : IntType) (target : Target) → IsHull (IsConverted a t target) r → ((v : ℤ) → ValsHas a v → IsValueOf t target v) → r ≡ a
set_to_kept a r t target p h = sets_same r a
    (p.least a (λ z q. (converted_has a t target h z).0 q))
    (λ v m. p.covers v ((converted_has a t target h v).1 m))

-- The least set that has a number has no other, what is below an explicit set is explicit, and a range has all numbers between its ends.

pub set_least_alone : (x : Vals) (v : ℤ) → ValsHas x v → ((y : Vals) → ValsHas y v → ValsBelow x y) → (w : ℤ) → ValsHas x w → v ≡ w
set_least_alone x v h least w m = let r = set_reach x v h in single_only v r w (least (single v r) (single_has v r v refl) w m)

pub set_below_explicit : (x y : Vals) → ValsBelow x y → vals_members x ≡ None → vals_members y ≡ None
set_below_explicit x (Many q) h e = refl
set_below_explicit (Many r) (Few s) h e = absurd (not_few r s h)
set_below_explicit (Few s) (Few t) h e = let n : Some s.items.items ≡ None = e in cc

pub set_range_has : (x : Vals) → vals_members x ≡ None → IfSome (vals_ends x) (λ (ends : ℤ × ℤ). (v : ℤ) → ends.0 ≤ℤ v → v ≤ℤ ends.1 → ValsHas x v)
set_range_has (Many r) e = λ v low high. (low, high)
set_range_has (Few s) e = let n : Some s.items.items ≡ None = e in cc
