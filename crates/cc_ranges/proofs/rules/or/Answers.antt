-- A row of ones of 64 bits at the most is an end.
use Rattle.std.proofs.Common.{◌≡◌, ℕ, ◌≤◌, ◌^◌, ℤ, pos, ◌-ℤ◌, FitsSigned, to_z, of_z, arith, pow_mono, pow_pos}
use Rattle.std.specs.Int.{w128}
use Rattle.std.proofs.lemmas.Int.{ints}
use Rattle.cc_ranges.specs.Ends.{IsInterval}
use Rattle.cc_ranges.proofs.rules.or.Goals as goal

power_fits : (k : ℕ) → k ≤ 64 → FitsSigned w128 (pos (2 ^ k))
power_fits k h = let p = pow_mono h in omega (arith, ints)

ones_interval : (k : ℕ) (z : ℤ) → k ≤ 64 → z ≡ pos (2 ^ k) → IsInterval (pos 0) (to_z w128 (of_z w128 (to_z w128 (of_z w128 z) -ℤ pos 1)))
ones_interval k z h e =
    let p = pow_mono h in
    let q = pow_pos k in
    record { ordered = omega (arith, ints); least = omega (arith, ints); most = omega (arith, ints) }

pub pow-requires : goal.pow-requires
pow-requires c = power_fits c.width-width.result c.width-width.ensures.most

pub invariant_of-result : goal.invariant_of-result
invariant_of-result c = record { ends = ones_interval c.width-width.result c.pow.result c.width-width.ensures.most c.pow.ensures }
