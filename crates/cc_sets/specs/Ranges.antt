-- How many bits a range has, which ends are those of more numbers than an explicit set may have, and
-- which bits make the least range that has two ends.
use Rattle.std.specs.Prelude.{ℕ, zero, suc, ◌^◌, ◌<◌, ◌≤◌, Bool, true, false, ℤ, pos, neg_ℤ, ◌+ℤ◌, ◌≤ℤ◌, ◌<ℤ◌, List, [], ◌∷◌}
use Rattle.cc_num.specs.Integers.{least_of_bits, most_of_bits}
use Rattle.cc_explicit.specs.Sets.{most_members}

-- the most bits of a range, with a sign and without
abbrev pub most_bits : Bool → ℕ
most_bits true = 65
most_bits false = 64

-- ends with more numbers between them than an explicit set may have, in reach of the greatest range
pub record IsSpread (low high : ℤ) : Type 0 where
  pub wide : (low +ℤ pos most_members) ≤ℤ high
  pub least : neg_ℤ (pos (2 ^ 64)) ≤ℤ low
  pub most : high <ℤ pos (2 ^ 64)

-- bits with a sign or without that make a range with both ends, below each other such range
pub record AreLeastBits (low high : ℤ) (s : Bool) (b : ℕ) : Type 0 where
  pub many : most_members < 2 ^ b
  pub few : b ≤ most_bits s
  pub low_in : least_of_bits s b ≤ℤ low
  pub high_in : high ≤ℤ most_of_bits s b
  pub least : (t : Bool) (k : ℕ) → least_of_bits t k ≤ℤ low → high ≤ℤ most_of_bits t k → (least_of_bits t k ≤ℤ least_of_bits s b) × (most_of_bits s b ≤ℤ most_of_bits t k)

-- n numbers from low on
abbrev pub numbers_from : ℤ → ℕ → List ℤ
numbers_from low zero = []
numbers_from low (suc n) = low ∷ numbers_from (low +ℤ pos 1) n
