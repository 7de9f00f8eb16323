-- The rules of one operand and of conversions, and what is kept by a comparison.
use Rattle.std.proofs.Common.{◌≡◌, zero, suc, Bool, true, false, not, ℤ, pos, negsuc, neg_ℤ, ◌-ℤ◌, ◌≤ℤ◌, Some, if◌then◌else◌, refl, sym, ap, subst, ◌∙◌, arith}
use Rattle.std.specs.Ordering.{int_eq}
use Rattle.std.proofs.lemmas.Int.{ints}
use Rattle.cc_num.specs.declared.int_type.IntType.{IntType}
use Rattle.cc_num.specs.declared.int_type.IntType.TheVariants as int
use Rattle.cc_num.specs.declared.target.Target.{Target}
use Rattle.cc_num.specs.declared.op.UnOp.{UnOp}
use Rattle.cc_num.specs.declared.op.UnOp.TheVariants as unary
use Rattle.cc_num.specs.Integers.{is_signed, most_of, IsValueOf, truth_of, converted}
use Rattle.cc_num.specs.Promotions.{promoted}
use Rattle.cc_num.specs.Results.{one_if, unary_result_of}
use Rattle.cc_num.proofs.Conversions.{converted-same, converted-IsValueOf, converted-Bool}
use Rattle.cc_num.proofs.ComplementLaws.{signed_complement, unsigned_complement}
use Rattle.cc_ranges.specs.Ends.{EndsHave, EndsBelow, whole_ends, lies_in}
use Rattle.cc_ranges.specs.Rules.{eq_rule, ne_rule, rule_of_one, conversion_rule}
use Rattle.cc_ranges.specs.laws.Fits.{ends_itself, fitted_has, fitted_below, lies_tells, lies_test}
use Rattle.cc_ranges.specs.laws.Products.{IsBetween}
use Rattle.cc_ranges.specs.laws.RuleHas.{named, eq_has, ne_has, eq_false}
use Rattle.cc_ranges.specs.laws.RuleGrows.{LieOut, eq_below, ne_below}

zero_between : IsBetween (pos 0) (pos 0) (pos 0)
zero_between = record { low_end = omega (arith, ints); high_end = omega (arith, ints) }

zero_out : LieOut (pos 0) (pos 0) (pos 0) (pos 0)
zero_out = record { some = omega (arith, ints); low_out = omega (arith, ints); high_out = omega (arith, ints) }

-- one operand

not_by : (s : Bool) (low high v z : ℤ) (t : IntType) (target : Target) → is_signed t target ≡ s → promoted t target ≡ t → IsBetween low high v → IsValueOf t target v
    → unary_result_of unary.Not v t target ≡ Some z
    → EndsHave (if s then Some (neg_ℤ high -ℤ pos 1, neg_ℤ low -ℤ pos 1) else Some (most_of t target -ℤ high, most_of t target -ℤ low)) z
not_by true low high v z t target s p a h e =
    let q = a.low_end in let r = a.high_end in
    named (Some (neg_ℤ high -ℤ pos 1, neg_ℤ low -ℤ pos 1)) (sym (signed_complement v t target s h) ∙ e) (omega (arith, ints), omega (arith, ints))
not_by false low high v z t target s p a h e =
    let q = a.low_end in let r = a.high_end in
    named (Some (most_of t target -ℤ high, most_of t target -ℤ low)) (sym (unsigned_complement v t target p s h) ∙ e) (omega (arith, ints), omega (arith, ints))

pub one_has : (o : UnOp) (low high v z : ℤ) (t : IntType) (target : Target) → promoted t target ≡ t → IsBetween low high v → IsValueOf t target v
    → unary_result_of o v t target ≡ Some z → EndsHave (rule_of_one o low high t target) z
unfolding unary_result_of rule_of_one
one_has unary.Neg low high v z t target p a h e =
    let q = a.low_end in let r = a.high_end in
    fitted_has (neg_ℤ high) (neg_ℤ low) (neg_ℤ v) z t target (omega (arith, ints)) (omega (arith, ints)) e
one_has unary.Not low high v z t target p a h e = not_by (is_signed t target) low high v z t target refl p a h e
one_has unary.Lnot low high v z t target p a h e = named (eq_rule low high (pos 0) (pos 0)) e (eq_has low high (pos 0) (pos 0) v (pos 0) z t target a zero_between)

not_below : (s : Bool) (low high low' high' : ℤ) (t : IntType) (target : Target) → LieOut low high low' high'
    → EndsBelow (if s then Some (neg_ℤ high -ℤ pos 1, neg_ℤ low -ℤ pos 1) else Some (most_of t target -ℤ high, most_of t target -ℤ low))
    (if s then Some (neg_ℤ high' -ℤ pos 1, neg_ℤ low' -ℤ pos 1) else Some (most_of t target -ℤ high', most_of t target -ℤ low'))
not_below true low high low' high' t target a = let p = a.low_out in let q = a.high_out in (omega (arith, ints), omega (arith, ints))
not_below false low high low' high' t target a = let p = a.low_out in let q = a.high_out in (omega (arith, ints), omega (arith, ints))

pub one_grows : (o : UnOp) (low high low' high' : ℤ) (t : IntType) (target : Target) → LieOut low high low' high'
    → EndsBelow (rule_of_one o low high t target) (rule_of_one o low' high' t target)
unfolding rule_of_one
one_grows unary.Neg low high low' high' t target a =
    let p = a.low_out in let q = a.high_out in
    fitted_below (neg_ℤ high) (neg_ℤ low) (neg_ℤ high') (neg_ℤ low') t target (omega (arith, ints)) (omega (arith, ints))
one_grows unary.Not low high low' high' t target a = not_below (is_signed t target) low high low' high' t target a
one_grows unary.Lnot low high low' high' t target a = eq_below low high (pos 0) (pos 0) low' high' (pos 0) (pos 0) t target a zero_out

-- conversions

truth_is : (v : ℤ) → truth_of v ≡ one_if (not (int_eq v (pos 0)))
truth_is (pos zero) = refl
truth_is (pos (suc n)) = ap (λ b. one_if (not b)) (sym (eq_false (pos (suc n)) (pos 0) (λ e. cc)))
truth_is (negsuc n) = ap (λ b. one_if (not b)) (sym (eq_false (negsuc n) (pos 0) (λ e. cc)))

conversion_by : (p : Bool) (low high v : ℤ) (t : IntType) (target : Target) → lies_in low high t target ≡ p → IsBetween low high v
    → EndsHave (if p then Some (low, high) else whole_ends t target) (converted v t target)
conversion_by true low high v t target e a =
    let h = lies_tells low high t target e in
    let p = h.first in let q = h.last in let r = a.low_end in let s = a.high_end in
    let value : IsValueOf t target v = record { least = omega (arith, ints); most = omega (arith, ints) } in
    subst (λ (x : ℤ). (low ≤ℤ x) × (x ≤ℤ high)) (sym (converted-same t target v value)) (r, s)
conversion_by false low high v t target e a = let value = converted-IsValueOf v t target in (value.least, value.most)

conversion_bool : (low high v : ℤ) (target : Target) → IsBetween low high v → EndsHave (ne_rule low high (pos 0) (pos 0)) (converted v int.Bool target)
conversion_bool low high v target a =
    subst (λ (x : ℤ). EndsHave (ne_rule low high (pos 0) (pos 0)) x) (sym (converted-Bool v target ∙ truth_is v))
    (ne_has low high (pos 0) (pos 0) v (pos 0) v int.Int target a zero_between)

pub conversion_has : (low high v : ℤ) (t : IntType) (target : Target) → IsBetween low high v → EndsHave (conversion_rule low high t target) (converted v t target)
unfolding conversion_rule
conversion_has low high v int.Bool target a = conversion_bool low high v target a
conversion_has low high v t target a = conversion_by (lies_in low high t target) low high v t target refl a

conversion_below : (p q : Bool) (low high low' high' : ℤ) (t : IntType) (target : Target) → lies_in low high t target ≡ p → lies_in low' high' t target ≡ q → LieOut low high low' high'
    → EndsBelow (if p then Some (low, high) else whole_ends t target) (if q then Some (low', high') else whole_ends t target)
conversion_below true true low high low' high' t target e f a = (a.low_out, a.high_out)
conversion_below true false low high low' high' t target e f a = let h = lies_tells low high t target e in (h.first, h.last)
conversion_below false true low high low' high' t target e f a =
    let h = lies_tells low' high' t target f in
    let p = h.first in let q = h.last in let r = a.low_out in let s = a.high_out in
    let n : lies_in low high t target ≡ true = lies_test low high t target (record { first = omega (arith, ints); last = omega (arith, ints) }) in
    cc
conversion_below false false low high low' high' t target e f a = ends_itself (whole_ends t target)

pub conversion_grows : (low high low' high' : ℤ) (t : IntType) (target : Target) → LieOut low high low' high'
    → EndsBelow (conversion_rule low high t target) (conversion_rule low' high' t target)
unfolding conversion_rule
conversion_grows low high low' high' int.Bool target a = ne_below low high (pos 0) (pos 0) low' high' (pos 0) (pos 0) int.Int target a zero_out
conversion_grows low high low' high' t target a = conversion_below (lies_in low high t target) (lies_in low' high' t target) low high low' high' t target refl refl a
