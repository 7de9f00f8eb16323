-- Sets keep to their types: operators, conversions and joins give no numbers but values of the type of their result, since all values of a
-- type are a set of which the hull is no greater.
use Rattle.std.specs.Prelude.{◌≡◌, ◌<◌, ◌≤◌, ◌^◌, ℕ, zero, suc, Bool, true, false, ℤ, pos, negsuc, ◌≤ℤ◌, ◌<ℤ◌, List, [], ◌∷◌, Option, Some, None, if◌then◌else◌}
use Rattle.std.specs.Global.{Global}
use Rattle.std.specs.Option.{IfSome}
use Rattle.std.proofs.Common.{refl, sym, ◌∙◌, subst, inl, inr, ⊎_elim, arith, pow_mono}
use Rattle.std.proofs.lemmas.Int.{ints}
use Rattle.std.proofs.lemmas.Option.{same_Some}
use Rattle.cc_num.specs.declared.int_type.IntType.{IntType}
use Rattle.cc_num.specs.declared.int_type.IntType.TheVariants as int
use Rattle.cc_num.specs.declared.target.Target.{Target}
use Rattle.cc_num.specs.declared.op.BinOp.{BinOp}
use Rattle.cc_num.specs.declared.op.UnOp.{UnOp}
use Rattle.cc_num.specs.declared.op.UnOp.TheVariants as unary
use Rattle.cc_num.specs.Integers.{bits_of, is_signed, IsValueOf}
use Rattle.cc_num.specs.Results.{one_if, result_of, unary_result_of, is_shift}
use Rattle.cc_num.proofs.Conversions.{least_is, most_is, some_bytes, few_bytes, converted-IsValueOf}
use Rattle.cc_num.proofs.ResultLaws.{truth_value, result_lands, unary_result_lands}
use Rattle.cc_lattice.specs.Domains.{AreOperands, AreOperandsOne, IsInReach, is_comparison, type_given, type_given_of_one, passes, AreEnds}
use Rattle.cc_lattice.specs.Orders.{IsLeastUpperBound}
use Rattle.cc_lattice.proofs.IntValues.{passing}
use Rattle.cc_ranges.specs.Ends.{Ends, EndsBelow, whole_ends}
use Rattle.cc_ranges.specs.Rules.{op_ends, op_one_ends, to_ends}
use Rattle.cc_ranges.specs.laws.SpanLaws.{second_value}
use Rattle.cc_ranges.specs.laws.TypedRules.{rule_in, one_in, conversion_in, value_in}
use Rattle.cc_explicit.specs.Sets.{most_members}
use Rattle.cc_explicit.specs.declared.explicit.Explicit.{Explicit}
use Rattle.cc_explicit.proofs.Lists.{In, in_list, in_contains, ascends}
use Rattle.cc_sets.specs.declared.vals.Vals.{Vals}
use Rattle.cc_sets.specs.declared.vals.Vals.TheVariants.{Few, Many}
use Rattle.cc_sets.specs.Ranges.{most_bits}
use Rattle.cc_sets.specs.Results.{OpResult, OneResult, IsConverted}
use Rattle.cc_sets.specs.Rungs.{low_of, high_of, ValsHas, ValsBelow, IsHull, vals_ends}
use Rattle.cc_sets.specs.laws.Ends.{set_ends}

-- the rung of all values of a type

record IsWhole (t : IntType) (target : Target) (x : Vals) : Type 0 where
  has : (v : ℤ) → IsValueOf t target v → ValsHas x v
  only : (v : ℤ) → ValsHas x v → IsValueOf t target v

allocator : Global
allocator = record { memory = record { seal = tt } }

by_sign : (s : Bool) (b : ℕ) → b ≤ 64 → b ≤ most_bits s
by_sign true b h = omega arith
by_sign false b h = h

range_of : (t : IntType) (target : Target) → (t ≡ int.Bool → ⊥) → (x : Vals) × IsWhole t target x
range_of t target other = (
  Many (record { signed = is_signed t target; bits = bits_of t target; alloc = allocator; many = many; few = by_sign (is_signed t target) (bits_of t target) few }),
  record {
    has = λ v h. (subst (λ (x : ℤ). x ≤ℤ v) (least_is t target) h.least, subst (λ (x : ℤ). v ≤ℤ x) (most_is t target other) h.most);
    only = λ v h. record { least = subst (λ (x : ℤ). x ≤ℤ v) (sym (least_is t target)) h.0; most = subst (λ (x : ℤ). v ≤ℤ x) (sym (most_is t target other)) h.1 };
  },
)
  where
    many : most_members < 2 ^ bits_of t target
    many =
        let h = some_bytes t target in
        let l : 8 ≤ bits_of t target = omega arith in
        let p : 2 ^ 8 ≤ 2 ^ bits_of t target = pow_mono l in
        omega arith

    few : bits_of t target ≤ 64
    few = let h = few_bytes t target in omega arith

abbrev both : List ℤ
both = pos 0 ∷ pos 1 ∷ []

two_cases : (P : ℤ → Type 0) → P (pos 0) → P (pos 1) → (v : ℤ) → In v both → P v
two_cases P first second v h = ⊎_elim (λ (e : pos 0 ≡ v). subst P e first) (λ t. ⊎_elim (λ (e : pos 1 ≡ v). subst P e second) (λ u. absurd u) t) h

truth_set : Explicit
truth_set = record {
  items = record { items = both; capacity = most_members };
  inline = refl;
  ascending = ascends both ((λ v t. ⊎_elim (λ (e : pos 1 ≡ v). subst (λ (z : ℤ). pos 0 <ℤ z) e (omega (arith, ints))) (λ u. absurd u) t), ((λ v t. absurd t), tt));
  few = omega arith;
  reach = λ v h. two_cases IsInReach (record { least = omega (arith, ints); most = omega (arith, ints) }) (record { least = omega (arith, ints); most = omega (arith, ints) }) v (in_list both v h);
}

truths_of : (target : Target) → (x : Vals) × IsWhole int.Bool target x
unfolding truth_set
truths_of target = (
  Few truth_set,
  record {
    has = λ v h. in_contains both v (there v h.least h.most);
    only = λ v h. two_cases (IsValueOf int.Bool target) (truth_value false int.Bool target) (truth_value true int.Bool target) v (in_list both v h);
  },
)
  where
    there : (v : ℤ) → pos 0 ≤ℤ v → v ≤ℤ pos 1 → In v both
    there (pos zero) h k = inl refl
    there (pos (suc zero)) h k = inr (inl refl)
    there (pos (suc (suc n))) h k = absurd (omega (arith, ints))
    there (negsuc n) h k = absurd (omega (arith, ints))

whole_of : (t : IntType) (target : Target) → (x : Vals) × IsWhole t target x
whole_of int.Bool target = truths_of target
whole_of t target = range_of t target (λ e. cc)

pub hull_typed : (P : ℤ → Type 0) (r : Vals) (t : IntType) (target : Target) → IsHull P r → ((z : ℤ) → P z → IsValueOf t target z) → (v : ℤ) → ValsHas r v → IsValueOf t target v
hull_typed P r t target p h v m =
    let w = whole_of t target in
    let x = w.1 in
    x.only v (p.least w.0 (λ z q. x.has z (h z q)) v m)

pub set_join_typed : (x y j : Vals) (t : IntType) (target : Target) → IsLeastUpperBound (λ _ _. Unit {0}) ValsBelow x y j →
    ((v : ℤ) → ValsHas x v → IsValueOf t target v) → ((v : ℤ) → ValsHas y v → IsValueOf t target v) → (v : ℤ) → ValsHas j v → IsValueOf t target v
set_join_typed x y j t target l h k v m =
    let w = whole_of t target in
    let u = w.1 in
    u.only v (l.least w.0 tt tt (λ z q. u.has z (h z q)) (λ z q. u.has z (k z q)) v m)

-- operators of two operands

given_by : (c : Bool) (o : BinOp) (v w z : ℤ) (t : IntType) (target : Target) → is_comparison o ≡ c → IsValueOf t target v → (is_shift o ≡ false → IsValueOf t target w) → result_of o v w t target ≡ Some z
    → IsValueOf (if c then int.Int else t) target z
given_by true o v w z t target c h k e =
    subst (IsValueOf int.Int target) (same_Some (one_if (passes o v w)) z (sym (passing o v w t target c) ∙ e)) (truth_value (passes o v w) int.Int target)
given_by false o v w z t target c h k e = subst (λ (r : Option ℤ). IfSome r (IsValueOf t target)) e (result_lands o v w t target h k)

ends_in : (o : BinOp) (P Q : ℤ → Type 0) (e f : Ends) (t : IntType) (target : Target) → IfSome e (AreEnds P) → IfSome f (AreEnds Q) → ((v : ℤ) → P v → IsValueOf t target v)
    → ((v : ℤ) → Q v → is_shift o ≡ false → IsValueOf t target v) → EndsBelow (op_ends o e f t target) (whole_ends (type_given o t) target)
ends_in o P Q None f t target p q h k = tt
ends_in o P Q (Some (la, ha)) None t target p q h k = tt
ends_in o P Q (Some (la, ha)) (Some (lb, hb)) t target p q h k =
    rule_in o la ha lb hb t target (p.low ha p.high_in)
    (record { first = (h la p.low_in).least; last = (h ha p.high_in).most })
    (λ s. record { first = (k lb q.low_in s).least; last = (k hb q.high_in s).most })

rule_typed : (o : BinOp) (a b : Vals) (t : IntType) (target : Target) → AreOperands ValsHas o a b t target → EndsBelow (op_ends o (vals_ends a) (vals_ends b) t target) (whole_ends (type_given o t) target)
rule_typed o a b t target k =
    ends_in o (ValsHas a) (ValsHas b) (vals_ends a) (vals_ends b) t target (set_ends a) (set_ends b) k.first (λ v m s. second_value (is_shift o) t target v s (k.second v m))

result_typed : (o : BinOp) (a b : Vals) (t : IntType) (target : Target) → AreOperands ValsHas o a b t target → (z : ℤ) → OpResult o a b t target z → IsValueOf (type_given o t) target z
result_typed o (Few a) (Few b) t target k z p =
    given_by (is_comparison o) o p.0 p.1 z t target refl (k.first p.0 p.2) (λ s. second_value (is_shift o) t target p.1 s (k.second p.1 p.3)) p.4
result_typed o (Few a) (Many b) t target k z p = value_in (op_ends o (vals_ends (Few a)) (vals_ends (Many b)) t target) (type_given o t) target z (rule_typed o (Few a) (Many b) t target k) p
result_typed o (Many a) (Few b) t target k z p = value_in (op_ends o (vals_ends (Many a)) (vals_ends (Few b)) t target) (type_given o t) target z (rule_typed o (Many a) (Few b) t target k) p
result_typed o (Many a) (Many b) t target k z p = value_in (op_ends o (vals_ends (Many a)) (vals_ends (Many b)) t target) (type_given o t) target z (rule_typed o (Many a) (Many b) t target k) p

pub set_op_typed : (o : BinOp) (a b r : Vals) (t : IntType) (target : Target) → AreOperands ValsHas o a b t target → IsHull (OpResult o a b t target) r
    → (v : ℤ) → ValsHas r v → IsValueOf (type_given o t) target v
set_op_typed o a b r t target k p v h = hull_typed (OpResult o a b t target) r (type_given o t) target p (result_typed o a b t target k) v h

-- operators of one operand

given_of_one : (o : UnOp) (v z : ℤ) (t : IntType) (target : Target) → unary_result_of o v t target ≡ Some z → IsValueOf (type_given_of_one o t) target z
unfolding unary_result_of
given_of_one unary.Neg v z t target e = subst (λ (r : Option ℤ). IfSome r (IsValueOf t target)) e (unary_result_lands unary.Neg v t target)
given_of_one unary.Not v z t target e = subst (λ (r : Option ℤ). IfSome r (IsValueOf t target)) e (unary_result_lands unary.Not v t target)
given_of_one unary.Lnot v z t target e = subst (λ (r : Option ℤ). IfSome r (IsValueOf int.Int target)) e (truth_value _ int.Int target)

one_typed : (o : UnOp) (a : Vals) (t : IntType) (target : Target) → AreOperandsOne ValsHas a t target → (z : ℤ) → OneResult o a t target z → IsValueOf (type_given_of_one o t) target z
one_typed o (Few a) t target k z p = given_of_one o p.0 z t target p.2
one_typed o (Many a) t target k z p =
    let e = set_ends (Many a) in
    value_in (op_one_ends o (vals_ends (Many a)) t target) (type_given_of_one o t) target z (one_in o (low_of a) (high_of a) t target k.promotion (k.first (low_of a) e.low_in) (k.first (high_of a) e.high_in)) p

pub set_one_typed : (o : UnOp) (a r : Vals) (t : IntType) (target : Target) → AreOperandsOne ValsHas a t target → IsHull (OneResult o a t target) r
    → (v : ℤ) → ValsHas r v → IsValueOf (type_given_of_one o t) target v
set_one_typed o a r t target k p v h = hull_typed (OneResult o a t target) r (type_given_of_one o t) target p (one_typed o a t target k) v h

-- conversions

converted_typed : (a : Vals) (t : IntType) (target : Target) (z : ℤ) → IsConverted a t target z → IsValueOf t target z
converted_typed (Few a) t target z p = subst (IsValueOf t target) p.2 (converted-IsValueOf p.0 t target)
converted_typed (Many a) t target z p = value_in (to_ends (vals_ends (Many a)) t target) t target z (conversion_in (low_of a) (high_of a) t target) p

pub set_to_typed : (a r : Vals) (t : IntType) (target : Target) → IsHull (IsConverted a t target) r → (v : ℤ) → ValsHas r v → IsValueOf t target v
set_to_typed a r t target p v h = hull_typed (IsConverted a t target) r t target p (converted_typed a t target) v h
