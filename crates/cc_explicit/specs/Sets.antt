-- Explicit sets of numbers, as ascending lists of few members.
use Rattle.std.specs.Prelude.{ℕ, ◌<◌, ◌≤◌, ℤ, ◌<ℤ◌, List, [], ◌∷◌, length, Option, Some, None}
use Rattle.std.specs.List.{Contains, slice_index_or}
use Rattle.cc_lattice.specs.Domains.{IsInReach}

-- the most members of an explicit set
abbrev pub most_members : ℕ
most_members = 64

abbrev pub AreInReach : List ℤ → Type 0
AreInReach xs = (v : ℤ) → Contains xs v → IsInReach v

-- where a number would stand among ascending ones: behind what is less, and before what is greater
pub record IsPlace (xs : List ℤ) (at : ℕ) (v : ℤ) : Type 0 where
  pub within : at ≤ length xs
  pub below : (k : ℕ) (d : ℤ) → k < at → slice_index_or xs k d <ℤ v
  pub above : (k : ℕ) (d : ℤ) → at ≤ k → k < length xs → v <ℤ slice_index_or xs k d

-- the least and the greatest of ascending numbers
abbrev pub list_ends : List ℤ → Option (ℤ × ℤ)
list_ends [] = None
list_ends (x ∷ xs) = Some (x, slice_index_or (x ∷ xs) (length xs) x)
