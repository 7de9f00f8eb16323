-- Slots that may be placed.
use Rattle.std.specs.Prelude.{◌≢◌, ◌≤◌, List, All, AllPairs}
use Rattle.cc_bins.specs.declared.types.Want.{Want}

-- a slot has 1 to 16 bits
abbrev pub IsSmall : Want → Type 0
IsSmall want = (1 ≤ want.bits) × (want.bits ≤ 16)

-- each is small, and no two have one number
pub record ArePlaceable (wants : List Want) : Type 0 where
  pub small : All IsSmall wants
  pub apart : AllPairs (λ x y. x.slot ≢ y.slot) wants
