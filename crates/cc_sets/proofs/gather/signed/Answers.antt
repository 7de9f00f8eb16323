-- The least number of bits that tells both ends.
use Rattle.std.proofs.Common.{rules, negsuc, unsigned_abs, ◌≡◌, ◌∙◌, ℕ, ◌+◌, true, ℤ, pos, neg_ℤ, ◌+ℤ◌, ◌≤ℤ◌, ◌<ℤ◌, refl, sym, ap, subst, arith, FitsSigned, to_z-of_z}
use Rattle.std.specs.Int.{w128, int_max}
use Rattle.std.proofs.lemmas.Int.{ints, clamps}
use Rattle.cc_lattice.specs.Domains.{IsInReach}
use Rattle.cc_explicit.proofs.Reach.{reach_same}
use Rattle.cc_sets.specs.declared.gathered.Spread.{Spread}
use Rattle.cc_sets.specs.Ranges.{AreLeastBits}
use Rattle.cc_sets.proofs.LeastRange.{signed_bits}
use Rattle.cc_sets.proofs.gather.signed.Goals as goal

abs_up : (z : ℤ) → pos 0 ≤ℤ z → pos (unsigned_abs z + 1) ≡ z +ℤ pos 1
abs_up (pos n) h = refl
abs_up (negsuc n) h = absurd (omega (arith, ints))

abs_down : (z : ℤ) → z <ℤ pos 0 → pos (unsigned_abs z) ≡ neg_ℤ z
abs_down (pos n) h = absurd (omega (arith, ints))
abs_down (negsuc n) h = refl

down_is : (n : ℕ) (y z : ℤ) → n ≡ unsigned_abs y → y ≡ z → z <ℤ pos 0 → pos n ≡ neg_ℤ z
down_is n y z e f h = ap pos e ∙ (ap (λ (x : ℤ). pos (unsigned_abs x)) f ∙ abs_down z h)

up_is : (y r x high : ℤ) → y ≡ r → r ≡ int_max x (pos 0) → x ≡ high → pos (unsigned_abs y + 1) ≡ int_max high (pos 0) +ℤ pos 1
up_is y r x high e f g =
    let h : y ≡ int_max high (pos 0) = e ∙ (f ∙ ap (λ (z : ℤ). int_max z (pos 0)) g) in
    subst (λ (z : ℤ). pos (unsigned_abs z + 1) ≡ int_max high (pos 0) +ℤ pos 1) (sym h) (abs_up (int_max high (pos 0)) (omega (arith, ints, clamps)))

high_reach : (s : Spread) → IsInReach s.high
high_reach s = let w = s.wide.wide in let l = s.wide.least in record { least = omega (arith, ints); most = s.wide.most }

low_reach : (s : Spread) → IsInReach s.low
low_reach s = let w = s.wide.wide in let m = s.wide.most in record { least = s.wide.least; most = omega (arith, ints) }

least_bits : (c : goal.After-max-2) → AreLeastBits c.args.spread.low c.args.spread.high true (1 + c.max-2.result)
least_bits c =
    let s = c.args.spread in
    let f : FitsSigned w128 c.max.result = search rules in
    signed_bits s.low s.high c.unsigned_abs.result _ c.bits_for-below.result c.bits_for-above.result (1 + c.max-2.result) c.requires s.wide
    (down_is c.unsigned_abs.result _ s.low c.unsigned_abs.ensures.value (reach_same s.low (low_reach s)) c.requires)
    (up_is _ c.max.result _ s.high (to_z-of_z f) c.max.ensures.value (reach_same s.high (high_reach s)))
    (record { enough = c.bits_for-below.ensures.enough; least = c.bits_for-below.ensures.least })
    (record { enough = c.bits_for-above.ensures.enough; least = c.bits_for-above.ensures.least })
    (ap (λ (n : ℕ). 1 + n) c.max-2.ensures)

pub overflow_add-result : goal.overflow_add-result
overflow_add-result c = let few = (least_bits c).few in omega (arith, few)

pub invariant_of-result : goal.invariant_of-result
invariant_of-result c = let p = least_bits c in record { many = p.many; few = p.few }

pub returns : goal.returns
returns c = least_bits c.before
