-- A remainder of a number that may be negative has either sign.
use Rattle.std.proofs.Common.{◌≡◌, ℕ, ◌-◌, ◌<◌, ◌^◌, min, false, ℤ, pos, neg_ℤ, int_le, None, if◌then◌else◌, sym, ap, ap₂, ◌∙◌, arith}
use Rattle.cc_num.specs.declared.int_type.IntType.{IntType}
use Rattle.cc_num.specs.declared.target.Target.{Target}
use Rattle.cc_ranges.specs.Ends.{Ends, fitted}
use Rattle.cc_ranges.specs.Rules.{only_zero, magnitude, rem_rule}
use Rattle.cc_ranges.proofs.Narrow.{low_narrow, test_low, cast_same, cast_negated}
use Rattle.cc_ranges.proofs.rules.remainder.Goals as goal

abbrev bound : ℤ → ℤ → ℤ → ℤ → ℕ
bound la ha lb hb = min (magnitude la ha) (magnitude lb hb - 1)

either_sign : (r : Ends) (la ha lb hb x y : ℤ) (t : IntType) (target : Target) → only_zero lb hb ≡ false → int_le (pos 0) la ≡ false
    → r ≡ fitted x y t target → x ≡ neg_ℤ (pos (bound la ha lb hb)) → y ≡ pos (bound la ha lb hb) → r ≡ rem_rule la ha lb hb t target
unfolding rem_rule
either_sign r la ha lb hb x y t target z p f g h =
    let m = bound la ha lb hb in
    f ∙ ap₂ (λ u v. fitted u v t target) g h
    ∙ sym (ap (λ b. if b then None else (if int_le (pos 0) la then fitted (pos 0) (pos m) t target else fitted (neg_ℤ (pos m)) (pos m) t target)) z
    ∙ ap (λ b. if b then fitted (pos 0) (pos m) t target else fitted (neg_ℤ (pos m)) (pos m) t target) p)

small : (m x y : ℕ) → m ≡ min x (y - 1) → x < 2 ^ 64 → m < 2 ^ 64
small m x y e h = omega arith

pub returns-else-a-ge0 : goal.returns-else-a-ge0
returns-else-a-ge0 c =
    let a = c.args.a.now in
    let b = c.args.b.now in
    let e : c.min-most.result ≡ bound a.low a.high b.low b.high = c.min-most.ensures ∙ ap₂ (λ x y. min x (y - 1)) c.magnitude.ensures.value c.magnitude-2.ensures.value in
    let few = small c.min-most.result c.magnitude.result c.magnitude-2.result c.min-most.ensures c.magnitude.ensures.most in
    either_sign _ a.low a.high b.low b.high _ _ c.args.t c.args.target.now (sym c.only_zero.ensures ∙ c.if-only_zero.false) (test_low a.low false (low_narrow a.low a.high a.ends) c.if-a-ge0.false) c.fitted-else-a-ge0.ensures
    (cast_negated _ few ∙ ap (λ n. neg_ℤ (pos n)) e) (cast_same _ few ∙ ap pos e)
