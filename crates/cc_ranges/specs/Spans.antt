-- Intervals as the code has them: their ends are values of integer types.
use Rattle.std.specs.Prelude.{ℕ, ◌^◌, ◌-◌, ◌-ℤ◌, unsigned_abs, Some, None}
use Rattle.cc_ranges.specs.declared.span.Span.{Span}
use Rattle.cc_ranges.specs.declared.span.Span.TheVariants.{Empty, Between}
use Rattle.cc_ranges.specs.Ends.{Ends}

abbrev pub ends_of : Span → Ends
ends_of Empty = None
ends_of (Between i) = Some (i.low, i.high)

-- how far a set is from the greatest one
abbrev pub room_of_span : Span → ℕ
room_of_span Empty = 2 ^ 70
room_of_span (Between i) = 2 ^ 70 - 1 - unsigned_abs (i.high -ℤ i.low)
