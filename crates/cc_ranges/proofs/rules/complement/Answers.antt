-- Complements of values are values.
use Rattle.std.proofs.Common.{◌≡◌, ◌^◌, true, false, ℤ, pos, neg_ℤ, ◌-ℤ◌, ◌≤ℤ◌, ◌<ℤ◌, Some, sym, ap₂, ◌∙◌, arith, to_z, of_z}
use Rattle.std.specs.Int.{w128}
use Rattle.std.proofs.lemmas.Int.{ints}
use Rattle.cc_num.specs.declared.int_type.IntType.{IntType}
use Rattle.cc_num.specs.declared.target.Target.{Target}
use Rattle.cc_num.specs.Integers.{is_signed, most_of}
use Rattle.cc_num.proofs.Exact.{IsNarrow, complement_exact}
use Rattle.cc_ranges.specs.Ends.{IsInterval, LieIn}
use Rattle.cc_ranges.specs.Rules.{not_rule}
use Rattle.cc_ranges.proofs.Narrow.{low_narrow, high_narrow, signed_most, unsigned_least}
use Rattle.cc_ranges.proofs.rules.complement.Goals as goal

interval_by : (x y x' y' : ℤ) → x ≡ x' → y ≡ y' → IsInterval x' y' → IsInterval x y
interval_by x y x' y' e f p = rw (e, f) p

signed_interval : (low high : ℤ) (t : IntType) (target : Target) → is_signed t target ≡ true → IsInterval low high → LieIn low high t target
    → IsInterval (neg_ℤ high -ℤ pos 1) (neg_ℤ low -ℤ pos 1)
signed_interval low high t target s p h =
    let o = p.ordered in let l = p.least in let m = p.most in
    let last = h.last in
    let few = signed_most t target s in
    record { ordered = omega (arith, ints); least = omega (arith, ints); most = omega (arith, ints) }

unsigned_interval : (low high most : ℤ) (t : IntType) (target : Target) → is_signed t target ≡ false → most ≡ most_of t target → most <ℤ pos (2 ^ 64) → IsInterval low high → LieIn low high t target
    → IsInterval (most -ℤ high) (most -ℤ low)
unsigned_interval low high most t target s e k p h =
    let o = p.ordered in let l = p.least in let m = p.most in
    let first = h.first in let last = h.last in
    let up = unsigned_least t target s in
    record { ordered = omega (arith, ints); least = omega (arith, ints); most = omega (arith, ints) }

from_most : (most a : ℤ) → pos 1 ≤ℤ most → most <ℤ pos (2 ^ 64) → IsNarrow a → to_z w128 (of_z w128 (to_z w128 (of_z w128 most) -ℤ to_z w128 (of_z w128 a))) ≡ most -ℤ a
from_most most a h k p = let p1 = p.low in let p2 = p.high in omega (arith, ints)

not_signed : (x y low high : ℤ) (t : IntType) (target : Target) → is_signed t target ≡ true → x ≡ neg_ℤ high -ℤ pos 1 → y ≡ neg_ℤ low -ℤ pos 1 → Some (x, y) ≡ not_rule low high t target
not_signed x y low high t target s e f = rw s (ap₂ (λ a b. Some (a, b)) e f)

not_unsigned : (x y low high most : ℤ) (t : IntType) (target : Target) → is_signed t target ≡ false → most ≡ most_of t target → x ≡ most -ℤ high → y ≡ most -ℤ low → Some (x, y) ≡ not_rule low high t target
not_unsigned x y low high most t target s m e f = rw (s, ← m) (ap₂ (λ a b. Some (a, b)) e f)

pub invariant_of-result : goal.invariant_of-result
invariant_of-result c =
    let a = c.args.a.now in
    let s : is_signed c.args.t c.args.target.now ≡ true = sym c.is_signed.ensures ∙ c.if-is_signed.true in
    record {
      ends = interval_by _ _ (neg_ℤ a.high -ℤ pos 1) (neg_ℤ a.low -ℤ pos 1) (complement_exact a.high (high_narrow a.low a.high a.ends)) (complement_exact a.low (low_narrow a.low a.high a.ends))
          (signed_interval a.low a.high c.args.t c.args.target.now s a.ends c.requires);
    }

pub returns-then-is_signed : goal.returns-then-is_signed
returns-then-is_signed c =
    let a = c.args.a.now in
    let s : is_signed c.args.t c.args.target.now ≡ true = sym c.is_signed.ensures ∙ c.if-is_signed.true in
    not_signed _ _ a.low a.high c.args.t c.args.target.now s (complement_exact a.high (high_narrow a.low a.high a.ends)) (complement_exact a.low (low_narrow a.low a.high a.ends))

pub invariant_of-result-else-is_signed : goal.invariant_of-result-else-is_signed
invariant_of-result-else-is_signed c =
    let a = c.args.a.now in
    let most = c.most-most.result in
    let m = c.most-most.ensures in
    let s : is_signed c.args.t c.args.target.now ≡ false = sym c.is_signed.ensures ∙ c.if-is_signed.false in
    record {
      ends = interval_by _ _ (most -ℤ a.high) (most -ℤ a.low) (from_most most a.high m.low m.high (high_narrow a.low a.high a.ends)) (from_most most a.low m.low m.high (low_narrow a.low a.high a.ends))
          (unsigned_interval a.low a.high most c.args.t c.args.target.now s m.value m.high a.ends c.requires);
    }

pub returns-else-is_signed : goal.returns-else-is_signed
returns-else-is_signed c =
    let a = c.args.a.now in
    let most = c.most-most.result in
    let m = c.most-most.ensures in
    let s : is_signed c.args.t c.args.target.now ≡ false = sym c.is_signed.ensures ∙ c.if-is_signed.false in
    not_unsigned _ _ a.low a.high most c.args.t c.args.target.now s m.value (from_most most a.high m.low m.high (high_narrow a.low a.high a.ends)) (from_most most a.low m.low m.high (low_narrow a.low a.high a.ends))
