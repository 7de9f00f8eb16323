-- The rungs: explicit sets of at most 64 members, and ranges, which are all numbers of some bits. A
-- rung is below another where it has no other members. The hull of a set of numbers is the least rung
-- that has all of them.
use Rattle.std.specs.Prelude.{ℕ, ◌+◌, ◌-◌, ℤ, ◌≤ℤ◌, List, length, Option, Some, None}
use Rattle.std.specs.List.{Contains}
use Rattle.cc_num.specs.Integers.{least_of_bits, most_of_bits}
use Rattle.cc_ranges.specs.Ends.{Ends}
use Rattle.cc_explicit.specs.Sets.{most_members, list_ends}
use Rattle.cc_sets.specs.declared.range.Range.{Range}
use Rattle.cc_sets.specs.declared.vals.Vals.{Vals}
use Rattle.cc_sets.specs.declared.vals.Vals.TheVariants.{Few, Many}

-- the least and the greatest number of a range
abbrev pub low_of : Range → ℤ
low_of r = least_of_bits r.signed r.bits

abbrev pub high_of : Range → ℤ
high_of r = most_of_bits r.signed r.bits

-- the members
abbrev pub ValsHas : Vals → ℤ → Type 0
ValsHas (Few s) v = Contains s.items.items v
ValsHas (Many r) v = (low_of r ≤ℤ v) × (v ≤ℤ high_of r)

-- no other members
abbrev pub ValsBelow : Vals → Vals → Type 0
ValsBelow x y = (v : ℤ) → ValsHas x v → ValsHas y v

-- the rung has each number of a set
abbrev pub Covers : Vals → (ℤ → Type 0) → Type 0
Covers x P = (v : ℤ) → P v → ValsHas x v

-- the least rung that has each number of a set
pub record IsHull (P : ℤ → Type 0) (r : Vals) : Type 0 where
  pub covers : Covers r P
  pub least : (x : Vals) → Covers x P → ValsBelow r x

-- the members of an explicit set, ascending
abbrev pub vals_members : Vals → Option (List ℤ)
vals_members (Few s) = Some s.items.items
vals_members (Many r) = None

-- the least and the greatest member
abbrev pub vals_ends : Vals → Ends
vals_ends (Few s) = list_ends s.items.items
vals_ends (Many r) = Some (low_of r, high_of r)

-- how many ranges stand above one another at the most: those of 7 bits to those of 65
abbrev pub range_rungs : ℕ
range_rungs = 59

-- how often a set can still rise: by a member more, and from 64 members on by a bit more
abbrev pub vals_room : Vals → ℕ
vals_room (Few s) = (most_members - length s.items.items) + range_rungs
vals_room (Many r) = 65 - r.bits
