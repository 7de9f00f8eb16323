-- Each rule gives numbers of its type alone: of a comparison 0 and 1, of an operand's type what lies in it.
use Rattle.std.proofs.Common.{◌≡◌, ◌^◌, ◌-◌, Bool, true, false, ◌&&◌, ℕ, ℤ, pos, negsuc, neg_ℤ, ◌-ℤ◌, ◌*ℤ◌, ◌≤ℤ◌, int_le, int_lt, unsigned_abs, min, Option, Some, None, if◌then◌else◌, refl, sym, subst, arith, div-le_self}
use Rattle.std.specs.Int.{int_max, int_min}
use Rattle.std.specs.Option.{IfSome}
use Rattle.std.proofs.lemmas.Int.{ints, clamps}
use Rattle.cc_num.specs.declared.int_type.IntType.{IntType}
use Rattle.cc_num.specs.declared.int_type.IntType.TheVariants as int
use Rattle.cc_num.specs.declared.target.Target.{Target}
use Rattle.cc_num.specs.declared.op.BinOp.{BinOp}
use Rattle.cc_num.specs.declared.op.BinOp.TheVariants as op
use Rattle.cc_num.specs.declared.op.UnOp.{UnOp}
use Rattle.cc_num.specs.declared.op.UnOp.TheVariants as unary
use Rattle.cc_num.specs.Integers.{bits_of, is_signed, least_of, most_of, IsValueOf}
use Rattle.cc_num.specs.Promotions.{promoted}
use Rattle.cc_num.specs.Results.{floor_of, is_shift, unary_result_of}
use Rattle.cc_num.proofs.ComplementLaws.{signed_complement, unsigned_complement}
use Rattle.cc_num.proofs.ResultLaws.{least_low, most_high, unary_result_lands}
use Rattle.cc_lattice.specs.Domains.{type_given, type_given_of_one}
use Rattle.cc_ranges.specs.Ends.{Ends, EndsHave, EndsBelow, whole_ends, lies_in, fitted, LieIn}
use Rattle.cc_ranges.specs.Rules.{magnitude, mul_rule, only_zero, div_rule, rem_rule, and_rule, width_of, or_rule, counts_of, shl_by, shl_rule, shr_by, shr_rule, verdict, rule_of, rule_of_one, conversion_rule}
use Rattle.cc_ranges.specs.laws.Fits.{ends_itself, fitted_signed, fitted_inside, fitted_outside, lies_tells, between_inside}
use Rattle.cc_ranges.specs.laws.RuleGrows.{width_within}

-- whatever fits a type

fitted_by : (s p : Bool) (low high : ℤ) (t : IntType) (target : Target) → is_signed t target ≡ s → lies_in low high t target ≡ p → EndsBelow (fitted low high t target) (whole_ends t target)
fitted_by true p low high t target s e =
    subst (λ (x : Ends). EndsBelow x (whole_ends t target)) (sym (fitted_signed low high t target s))
    (between_inside (int_max (least_of t target) low) (int_min (most_of t target) high) (least_of t target) (most_of t target) (omega (arith, ints, clamps)) (omega (arith, ints, clamps)))
fitted_by false true low high t target s e =
    let h = lies_tells low high t target e in
    subst (λ (x : Ends). EndsBelow x (whole_ends t target)) (sym (fitted_inside low high t target s e)) (h.first, h.last)
fitted_by false false low high t target s e =
    subst (λ (x : Ends). EndsBelow x (whole_ends t target)) (sym (fitted_outside low high t target s e)) (ends_itself (whole_ends t target))

fitted_in : (low high : ℤ) (t : IntType) (target : Target) → EndsBelow (fitted low high t target) (whole_ends t target)
fitted_in low high t target = fitted_by (is_signed t target) (lies_in low high t target) low high t target refl refl

-- one of two

either_in : (b : Bool) (x y w : Ends) → EndsBelow x w → EndsBelow y w → EndsBelow (if b then x else y) w
either_in true x y w h k = h
either_in false x y w h k = k

-- what a comparison gives

pub verdict_in : (holds fails : Bool) (t : IntType) (target : Target) → EndsBelow (verdict holds fails) (whole_ends t target)
verdict_in true fails t target = let l = least_low t target in let m = most_high t target in (omega (arith, ints), m)
verdict_in false true t target = let l = least_low t target in let m = most_high t target in (l, omega (arith, ints))
verdict_in false false t target = let l = least_low t target in let m = most_high t target in (l, m)

-- operators of two operands

mul_in : (la ha lb hb : ℤ) (t : IntType) (target : Target) → EndsBelow (mul_rule la ha lb hb t target) (whole_ends t target)
unfolding mul_rule
mul_in la ha lb hb t target = fitted_in _ _ t target

div_in : (la ha lb hb : ℤ) (t : IntType) (target : Target) → EndsBelow (div_rule la ha lb hb t target) (whole_ends t target)
unfolding div_rule
div_in la ha lb hb t target =
    let some = fitted (pos 0) ha t target in
    let any = fitted (neg_ℤ (pos (magnitude la ha))) (pos (magnitude la ha)) t target in
    either_in (only_zero lb hb) None (if int_le (pos 0) la && int_le (pos 0) lb then some else any) (whole_ends t target) tt
    (either_in (int_le (pos 0) la && int_le (pos 0) lb) some any (whole_ends t target) (fitted_in (pos 0) ha t target) (fitted_in (neg_ℤ (pos (magnitude la ha))) (pos (magnitude la ha)) t target))

rem_in : (la ha lb hb : ℤ) (t : IntType) (target : Target) → EndsBelow (rem_rule la ha lb hb t target) (whole_ends t target)
unfolding rem_rule
rem_in la ha lb hb t target =
    let size = pos (min (magnitude la ha) (magnitude lb hb - 1)) in
    either_in (only_zero lb hb) None (if int_le (pos 0) la then fitted (pos 0) size t target else fitted (neg_ℤ size) size t target) (whole_ends t target) tt
    (either_in (int_le (pos 0) la) (fitted (pos 0) size t target) (fitted (neg_ℤ size) size t target) (whole_ends t target) (fitted_in (pos 0) size t target) (fitted_in (neg_ℤ size) size t target))

and_in : (la ha lb hb : ℤ) (t : IntType) (target : Target) → ha ≤ℤ most_of t target → hb ≤ℤ most_of t target → EndsBelow (and_rule la ha lb hb t target) (whole_ends t target)
unfolding and_rule
and_in la ha lb hb t target h k =
    let l = least_low t target in
    let w = whole_ends t target in
    either_in (int_le (pos 0) la) (if int_le (pos 0) lb then Some (pos 0, int_min ha hb) else Some (pos 0, ha)) (if int_le (pos 0) lb then Some (pos 0, hb) else w) w
    (either_in (int_le (pos 0) lb) (Some (pos 0, int_min ha hb)) (Some (pos 0, ha)) w (l, omega (arith, ints, clamps)) (l, h))
    (either_in (int_le (pos 0) lb) (Some (pos 0, hb)) w w (l, k) (ends_itself w))

or_by : (b : Bool) (la ha lb hb : ℤ) (t : IntType) (target : Target) → (int_le (pos 0) la && int_le (pos 0) lb) ≡ b → la ≤ℤ ha → ha ≤ℤ most_of t target → hb ≤ℤ most_of t target
    → EndsBelow (if b then Some (pos 0, pos (2 ^ width_of (int_max ha hb) - 1)) else whole_ends t target) (whole_ends t target)
or_by true la ha lb hb t target e o h k =
    let up : pos 0 ≤ℤ la = grind (arith, ints) in
    (least_low t target, width_within (int_max ha hb) t target (omega (arith, ints, clamps)) (omega (arith, ints, clamps)))
or_by false la ha lb hb t target e o h k = ends_itself (whole_ends t target)

or_in : (la ha lb hb : ℤ) (t : IntType) (target : Target) → la ≤ℤ ha → ha ≤ℤ most_of t target → hb ≤ℤ most_of t target → EndsBelow (or_rule la ha lb hb t target) (whole_ends t target)
unfolding or_rule
or_in la ha lb hb t target o h k = or_by (int_le (pos 0) la && int_le (pos 0) lb) la ha lb hb t target refl o h k

shl_by_in : (c : Ends) (ha : ℤ) (t : IntType) (target : Target) → EndsBelow (shl_by c ha t target) (whole_ends t target)
shl_by_in None ha t target = tt
shl_by_in (Some (least, most)) ha t target = fitted_in (pos 0) (ha *ℤ pos (2 ^ unsigned_abs most)) t target

shl_in : (la ha lb hb : ℤ) (t : IntType) (target : Target) → EndsBelow (shl_rule la ha lb hb t target) (whole_ends t target)
unfolding shl_rule
shl_in la ha lb hb t target =
    either_in (int_lt ha (pos 0)) None (shl_by (counts_of lb hb (bits_of t target)) ha t target) (whole_ends t target) tt (shl_by_in (counts_of lb hb (bits_of t target)) ha t target)

shifted_in : (b : Bool) (ha : ℤ) (n : ℕ) (t : IntType) (target : Target) → int_lt ha (pos 0) ≡ b → ha ≤ℤ most_of t target → (if b then neg_ℤ (pos 1) else floor_of ha n) ≤ℤ most_of t target
shifted_in true ha n t target e h = let m = most_high t target in omega (arith, ints)
shifted_in false (pos ha) n t target e h = let d = div-le_self ha (2 ^ n) in omega (arith, ints)
shifted_in false (negsuc ha) n t target e h = cc

shr_by_in : (c : Ends) (la ha : ℤ) (t : IntType) (target : Target) → LieIn la ha t target → EndsBelow (shr_by c la ha) (whole_ends t target)
shr_by_in None la ha t target h = tt
shr_by_in (Some (least, most)) la ha t target h =
    let l = least_low t target in let first = h.first in
    (omega (arith, ints, clamps), shifted_in (int_lt ha (pos 0)) ha (unsigned_abs least) t target refl h.last)

shr_in : (la ha lb hb : ℤ) (t : IntType) (target : Target) → LieIn la ha t target → EndsBelow (shr_rule la ha lb hb t target) (whole_ends t target)
unfolding shr_rule
shr_in la ha lb hb t target h = shr_by_in (counts_of lb hb (bits_of t target)) la ha t target h

pub rule_in : (o : BinOp) (la ha lb hb : ℤ) (t : IntType) (target : Target) → la ≤ℤ ha → LieIn la ha t target → (is_shift o ≡ false → LieIn lb hb t target)
    → EndsBelow (rule_of o la ha lb hb t target) (whole_ends (type_given o t) target)
unfolding rule_of
rule_in op.Add la ha lb hb t target o h k = fitted_in _ _ t target
rule_in op.Sub la ha lb hb t target o h k = fitted_in _ _ t target
rule_in op.Mul la ha lb hb t target o h k = mul_in la ha lb hb t target
rule_in op.Div la ha lb hb t target o h k = div_in la ha lb hb t target
rule_in op.Rem la ha lb hb t target o h k = rem_in la ha lb hb t target
rule_in op.And la ha lb hb t target o h k = and_in la ha lb hb t target h.last (k refl).last
rule_in op.Or la ha lb hb t target o h k = or_in la ha lb hb t target o h.last (k refl).last
rule_in op.Xor la ha lb hb t target o h k = or_in la ha lb hb t target o h.last (k refl).last
rule_in op.Shl la ha lb hb t target o h k = shl_in la ha lb hb t target
rule_in op.Shr la ha lb hb t target o h k = shr_in la ha lb hb t target h
rule_in op.Lt la ha lb hb t target o h k = verdict_in _ _ int.Int target
rule_in op.Le la ha lb hb t target o h k = verdict_in _ _ int.Int target
rule_in op.Gt la ha lb hb t target o h k = verdict_in _ _ int.Int target
rule_in op.Ge la ha lb hb t target o h k = verdict_in _ _ int.Int target
rule_in op.Eq la ha lb hb t target o h k = verdict_in _ _ int.Int target
rule_in op.Ne la ha lb hb t target o h k = verdict_in _ _ int.Int target

-- operators of one operand

complement_value : (v w : ℤ) (t : IntType) (target : Target) → unary_result_of unary.Not v t target ≡ Some w → IsValueOf t target w
complement_value v w t target e = subst (λ (r : Option ℤ). IfSome r (IsValueOf t target)) e (unary_result_lands unary.Not v t target)

not_in : (s : Bool) (low high : ℤ) (t : IntType) (target : Target) → is_signed t target ≡ s → promoted t target ≡ t → IsValueOf t target low → IsValueOf t target high
    → EndsBelow (if s then Some (neg_ℤ high -ℤ pos 1, neg_ℤ low -ℤ pos 1) else Some (most_of t target -ℤ high, most_of t target -ℤ low)) (whole_ends t target)
not_in true low high t target s p h k = (
  (complement_value high (neg_ℤ high -ℤ pos 1) t target (signed_complement high t target s k)).least,
  (complement_value low (neg_ℤ low -ℤ pos 1) t target (signed_complement low t target s h)).most,
)
not_in false low high t target s p h k = (
  (complement_value high (most_of t target -ℤ high) t target (unsigned_complement high t target p s k)).least,
  (complement_value low (most_of t target -ℤ low) t target (unsigned_complement low t target p s h)).most,
)

pub one_in : (o : UnOp) (low high : ℤ) (t : IntType) (target : Target) → promoted t target ≡ t → IsValueOf t target low → IsValueOf t target high
    → EndsBelow (rule_of_one o low high t target) (whole_ends (type_given_of_one o t) target)
unfolding rule_of_one
one_in unary.Neg low high t target p h k = fitted_in _ _ t target
one_in unary.Not low high t target p h k = not_in (is_signed t target) low high t target refl p h k
one_in unary.Lnot low high t target p h k = verdict_in _ _ int.Int target

-- conversions

converted_in : (b : Bool) (low high : ℤ) (t : IntType) (target : Target) → lies_in low high t target ≡ b → EndsBelow (if b then Some (low, high) else whole_ends t target) (whole_ends t target)
converted_in true low high t target e = let h = lies_tells low high t target e in (h.first, h.last)
converted_in false low high t target e = ends_itself (whole_ends t target)

pub conversion_in : (low high : ℤ) (t : IntType) (target : Target) → EndsBelow (conversion_rule low high t target) (whole_ends t target)
unfolding conversion_rule
conversion_in low high int.Bool target = verdict_in _ _ int.Bool target
conversion_in low high t target = converted_in (lies_in low high t target) low high t target refl

-- numbers between ends in a type

pub value_in : (e : Ends) (t : IntType) (target : Target) (v : ℤ) → EndsBelow e (whole_ends t target) → EndsHave e v → IsValueOf t target v
value_in None t target v h k = absurd k
value_in (Some (low, high)) t target v h k =
    let a = h.0 in let b = h.1 in let c = k.0 in let d = k.1 in
    record { least = omega (arith, ints); most = omega (arith, ints) }
