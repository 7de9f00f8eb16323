-- Indices outside an array.
use Rattle.std.proofs.lemmas.Int.{ints}
use Rattle.std.proofs.Common.{arith, ◌≡◌, ℕ, ℤ, pos, negsuc, ◌<ℤ◌, None, refl}
use Rattle.cc_values.specs.Values.{index_in}

pub index_below : (z : ℤ) (count : ℕ) → z <ℤ pos 0 → None ≡ index_in z count
index_below (pos n) count h = absurd (omega (arith, ints, h))
index_below (negsuc n) count h = refl

pub index_above : (z : ℤ) (count : ℕ) → pos count <ℤ z → None ≡ index_in z count
index_above (pos n) count h = grind (arith, ints)
index_above (negsuc n) count h = absurd (omega (arith, ints, h))

pub ruleset of_indices = (index_below, index_above)
