-- Numbers in reach are exact in 128 bits.
use Rattle.std.proofs.Common.{◌≡◌, ℕ, ◌<◌, ℤ, List, length, get_or, to_z, of_z, arith}
use Rattle.std.specs.Int.{w128}
use Rattle.std.proofs.lemmas.Int.{ints}
use Rattle.std.proofs.lemmas.List.Elements.{Contains-get_or}
use Rattle.cc_lattice.specs.Domains.{IsInReach}
use Rattle.cc_explicit.specs.Sets.{AreInReach}

pub reach_same : (v : ℤ) → IsInReach v → to_z w128 (of_z w128 v) ≡ v
reach_same v h = let l = h.least in let m = h.most in omega (arith, ints)

-- an element of a list that is read
pub read_same : (xs : List ℤ) (i : ℕ) (d : ℤ) → AreInReach xs → i < length xs → to_z w128 (of_z w128 (get_or xs i d)) ≡ get_or xs i d
read_same xs i d h l = reach_same (get_or xs i d) (h (get_or xs i d) (Contains-get_or xs i d l))
