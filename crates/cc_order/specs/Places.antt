-- Places of several sources, and positions in a list.
use Rattle.std.specs.Prelude.{ℕ, Bool, ◌&&◌, ◌||◌, nat_eq, nat_lt, List, Option, Some, slice_index_or, slice_set, if◌then◌else◌}
use Rattle.std.specs.Option.{is_none}
use Rattle.cc_order.specs.declared.place.Place.{Place}

-- in an earlier source, or in the same one at a lower offset
abbrev pub is_earlier : ℕ → ℕ → ℕ → ℕ → Bool
is_earlier source offset other_source other_offset = nat_lt source other_source || (nat_eq source other_source && nat_lt offset other_offset)

abbrev pub stands_before : Place → Place → Bool
stands_before p q = is_earlier p.source p.offset q.source q.offset

-- a position is told once, and of a number that has a place for it
abbrev pub with_position : List (Option ℕ) → ℕ → ℕ → List (Option ℕ)
with_position positions number i = if is_none (slice_index_or positions number (Some 0)) then slice_set positions number (Some i) else positions
