-- The two ends of an interval of numbers, or none where it is empty.
use Rattle.std.specs.Prelude.{◌^◌, ◌&&◌, ℤ, pos, neg_ℤ, ◌≤ℤ◌, ◌<ℤ◌, int_le, Bool, Option, Some, None, if◌then◌else◌}
use Rattle.std.specs.Int.{int_max, int_min}
use Rattle.cc_num.specs.declared.int_type.IntType.{IntType}
use Rattle.cc_num.specs.declared.target.Target.{Target}
use Rattle.cc_num.specs.Integers.{is_signed, least_of, most_of}

abbrev pub Ends : Type 0
Ends = Option (ℤ × ℤ)

-- ends that are values of integer types, in order
pub record IsInterval (low high : ℤ) : Type 0 where
  pub ordered : low ≤ℤ high
  pub least : neg_ℤ (pos (2 ^ 63)) ≤ℤ low
  pub most : high <ℤ pos (2 ^ 64)

-- numbers from low to high are values of a type
pub record LieIn (low high : ℤ) (t : IntType) (target : Target) : Type 0 where
  pub first : least_of t target ≤ℤ low
  pub last : high ≤ℤ most_of t target

-- the numbers from the one end to the other
abbrev pub EndsHave : Ends → ℤ → Type 0
EndsHave None v = ⊥
EndsHave (Some (low, high)) v = (low ≤ℤ v) × (v ≤ℤ high)

-- the one interval lies in the other
abbrev pub EndsBelow : Ends → Ends → Type 0
EndsBelow None y = Unit {0}
EndsBelow (Some (low, high)) None = ⊥
EndsBelow (Some (low, high)) (Some (low', high')) = (low' ≤ℤ low) × (high ≤ℤ high')

-- from low to high, and empty where high is below low
abbrev pub between : ℤ → ℤ → Ends
between low high = if int_le low high then Some (low, high) else None

-- the part of low to high that lies in a type
abbrev pub cut : ℤ → ℤ → IntType → Target → Ends
cut low high t target = between (int_max (least_of t target) low) (int_min (most_of t target) high)

-- all values of a type
abbrev pub whole_ends : IntType → Target → Ends
whole_ends t target = Some (least_of t target, most_of t target)

-- whether low to high lie in a type
abbrev pub lies_in : ℤ → ℤ → IntType → Target → Bool
lies_in low high t target = int_le (least_of t target) low && int_le high (most_of t target)

-- exact results from low to high, in a type: those outside a signed type trap, and where one is outside
-- an unsigned type it may be any value
abbrev pub fitted : ℤ → ℤ → IntType → Target → Ends
fitted low high t target = if is_signed t target then cut low high t target else (if lies_in low high t target then Some (low, high) else whole_ends t target)
