-- A shift by less than 64 of a number of 64 bits stays in 128 bits.
use Rattle.std.proofs.Common.{◌≡◌, ℕ, ◌≤◌, ◌^◌, false, ℤ, pos, negsuc, ◌*ℤ◌, ◌-◌, ◌≤ℤ◌, ◌<ℤ◌, int_lt, unsigned_abs, FitsSigned, Some, None, if◌then◌else◌, lit<, sym, ap, ◌∙◌, arith, rules, pow_mono, to_z-of_z}
use Rattle.std.specs.Int.{w128}
use Rattle.std.proofs.lemmas.Int.{ints, fits_signed_mul}
use Rattle.cc_num.specs.declared.int_type.IntType.{IntType}
use Rattle.cc_num.specs.declared.target.Target.{Target}
use Rattle.cc_num.specs.Integers.{bits_of}
use Rattle.cc_num.proofs.Exact.{narrow_fits, product_exact}
use Rattle.cc_ranges.specs.Ends.{Ends, IsInterval, fitted}
use Rattle.cc_ranges.specs.Rules.{counts_of, shl_by, shl_rule}
use Rattle.cc_ranges.proofs.Narrow.{high_narrow, narrow_same, test_high, not_less}
use Rattle.cc_ranges.proofs.rules.shift_left.Goals as goal

few_places : (low high : ℤ) (bits : ℕ) → IsInterval low high → pos 0 ≤ℤ low → high <ℤ pos bits → bits ≤ 64 → unsigned_abs high ≤ 63
few_places low high bits p a b c = let o = p.ordered in omega (arith, ints)

shift_fits : (a b : ℤ) (k : ℕ) → pos 0 ≤ℤ a → a <ℤ pos (2 ^ 64) → k ≤ 63 → b ≡ pos (2 ^ k) → FitsSigned w128 (a *ℤ b)
shift_fits a b k l h few e = let p = pow_mono few in fits_signed_mul w128 a b (2 ^ 64 - 1) (2 ^ 63) (omega (arith, ints)) (omega (arith, ints)) (lit< tt)

product_up : (a b : ℤ) (k : ℕ) → pos 0 ≤ℤ a → b ≡ pos (2 ^ k) → pos 0 ≤ℤ (a *ℤ b)
product_up (pos m) (pos n) k h e = omega (arith, ints)
product_up (pos m) (negsuc n) k h e = absurd (omega (arith, ints))
product_up (negsuc m) b k h e = absurd (omega (arith, ints))

by_counts : (r : Ends) (la ha lb hb least most x : ℤ) (t : IntType) (target : Target) → int_lt ha (pos 0) ≡ false → Some (least, most) ≡ counts_of lb hb (bits_of t target)
    → r ≡ fitted (pos 0) x t target → x ≡ ha *ℤ pos (2 ^ unsigned_abs most) → r ≡ shl_rule la ha lb hb t target
unfolding shl_rule
by_counts r la ha lb hb least most x t target z s f g =
    f ∙ ap (λ y. fitted (pos 0) y t target) g ∙ ap (λ (e : Ends). shl_by e ha t target) s
    ∙ sym (ap (λ b. if b then None else shl_by (counts_of lb hb (bits_of t target)) ha t target) z)

-- what is known at the shift
record Shift (high factor : ℤ) (places : ℕ) : Type 0 where
  up : pos 0 ≤ℤ high
  few : places ≤ 63
  power : factor ≡ pos (2 ^ places)

shift_of : (c : goal.After-pow) → Shift c.args.a.now.high c.pow.result (unsigned_abs c.in-Between.counts.high)
shift_of c =
    let a = c.args.a.now in
    let k = c.in-Between.counts in
    let inside = c.in-Between.ensures.inside in
    record {
      up = not_less a.high (test_high a.high false (high_narrow a.low a.high a.ends) c.if-a-lt0.false);
      few = few_places k.low k.high c.bits.result k.ends inside.0 inside.1 c.bits.ensures.most;
      power = c.pow.ensures ∙ ap (λ h. pos (2 ^ unsigned_abs h)) (narrow_same k.high (high_narrow k.low k.high k.ends));
    }

product_fits : (c : goal.After-pow) → FitsSigned w128 (c.args.a.now.high *ℤ c.pow.result)
product_fits c = let s = shift_of c in shift_fits c.args.a.now.high c.pow.result (unsigned_abs c.in-Between.counts.high) s.up c.args.a.now.ends.most s.few s.power

pub overflow_mul-a : goal.overflow_mul-a
overflow_mul-a c =
    let a = c.args.a.now in
    let f : FitsSigned w128 a.high = narrow_fits a.high (high_narrow a.low a.high a.ends) in
    let g : FitsSigned w128 c.pow.result = search rules in
    simp to_z-of_z (product_fits c)

pub fitted-requires : goal.fitted-requires
fitted-requires c =
    let a = c.args.a.now in
    let f : FitsSigned w128 a.high = narrow_fits a.high (high_narrow a.low a.high a.ends) in
    let g : FitsSigned w128 c.pow.result = search rules in
    let s = shift_of c in
    rw (product_exact a.high c.pow.result f g (product_fits c)) (product_up a.high c.pow.result (unsigned_abs c.in-Between.counts.high) s.up s.power)

pub returns-in-Between : goal.returns-in-Between
returns-in-Between c =
    let a = c.args.a.now in
    let b = c.args.b.now in
    let f : FitsSigned w128 a.high = narrow_fits a.high (high_narrow a.low a.high a.ends) in
    let g : FitsSigned w128 c.pow.result = search rules in
    let s = shift_of c.before in
    by_counts _ a.low a.high b.low b.high c.in-Between.counts.low c.in-Between.counts.high _ c.args.t c.args.target.now
    (test_high a.high false (high_narrow a.low a.high a.ends) c.if-a-lt0.false)
    (c.in-Between.ensures.value ∙ ap (counts_of b.low b.high) c.bits.ensures.value)
    c.fitted.ensures
    (product_exact a.high c.pow.result f g (product_fits c.before) ∙ ap (λ p. a.high *ℤ p) s.power)
