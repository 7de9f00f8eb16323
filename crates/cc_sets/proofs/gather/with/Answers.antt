-- The ends move apart.
use Rattle.std.proofs.Common.{rules, ◌≡◌, ℤ, arith}
use Rattle.std.specs.Int.{int_max, int_min}
use Rattle.std.proofs.lemmas.Int.{ints, clamps}
use Rattle.cc_lattice.specs.Domains.{IsInReach}
use Rattle.cc_sets.specs.declared.gathered.Spread.{Spread}
use Rattle.cc_sets.specs.Ranges.{IsSpread}
use Rattle.cc_sets.proofs.gather.with.Goals as goal

spread_with : (s : Spread) (v low high : ℤ) → IsInReach v → low ≡ int_min s.low v → high ≡ int_max s.high v → IsSpread low high
spread_with s v low high r e f =
    let w = s.wide.wide in let l = s.wide.least in let m = s.wide.most in let a = r.least in let b = r.most in
    record { wide = omega (arith, ints, clamps); least = omega (arith, ints, clamps); most = omega (arith, ints, clamps) }

pub invariant_of-result : goal.invariant_of-result
invariant_of-result c = record { wide = spread_with c.args.spread c.args.v _ _ c.requires (search rules) (search rules) }
