-- The least number of bits that tells the greater end.
use Rattle.std.proofs.Common.{negsuc, unsigned_abs, ◌≡◌, ◌+◌, false, ℤ, pos, ◌+ℤ◌, ◌≤ℤ◌, refl, sym, subst, arith}
use Rattle.std.proofs.lemmas.Int.{ints}
use Rattle.cc_lattice.specs.Domains.{IsInReach}
use Rattle.cc_explicit.proofs.Reach.{reach_same}
use Rattle.cc_sets.specs.declared.gathered.Spread.{Spread}
use Rattle.cc_sets.specs.Ranges.{AreLeastBits}
use Rattle.cc_sets.proofs.LeastRange.{unsigned_bits}
use Rattle.cc_sets.proofs.gather.unsigned.Goals as goal

abs_up : (z : ℤ) → pos 0 ≤ℤ z → pos (unsigned_abs z + 1) ≡ z +ℤ pos 1
abs_up (pos n) h = refl
abs_up (negsuc n) h = absurd (omega (arith, ints))

up_one : (y z : ℤ) → y ≡ z → pos 0 ≤ℤ z → pos (unsigned_abs y + 1) ≡ z +ℤ pos 1
up_one y z e h = subst (λ (x : ℤ). pos (unsigned_abs x + 1) ≡ z +ℤ pos 1) (sym e) (abs_up z h)

high_up : (s : Spread) → pos 0 ≤ℤ s.low → pos 0 ≤ℤ s.high
high_up s h = let w = s.wide.wide in omega (arith, ints)

high_reach : (s : Spread) → IsInReach s.high
high_reach s = let w = s.wide.wide in let l = s.wide.least in record { least = omega (arith, ints); most = s.wide.most }

least_bits : (c : goal.After-bits_for) → AreLeastBits c.args.spread.low c.args.spread.high false c.bits_for.result
least_bits c =
    let s = c.args.spread in
    unsigned_bits s.low s.high _ c.bits_for.result c.requires s.wide (up_one _ s.high (reach_same s.high (high_reach s)) (high_up s c.requires))
    (record { enough = c.bits_for.ensures.enough; least = c.bits_for.ensures.least })

pub invariant_of-result : goal.invariant_of-result
invariant_of-result c = let p = least_bits c in record { many = p.many; few = p.few }

pub returns : goal.returns
returns c = least_bits c.before
