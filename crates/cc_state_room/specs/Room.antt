-- How often facts can still rise, at the most: each set of values as often as its domain says, each mark once, and so on. A point that
-- is not reached counts as more than any that is.
use Rattle.std.specs.Prelude.{ℕ, ◌+◌, ◌-◌, ◌^◌, Bool, List, length, Option, Some, None, sum_by, if◌then◌else◌}
use Rattle.cc_places.specs.declared.abs.Abs.{Abs}
use Rattle.cc_places.specs.declared.abs.Abs.TheVariants as abs
use Rattle.cc_places.specs.Sets.{room_left}
use Rattle.cc_state_facts.specs.declared.facts.Facts.{Facts}
use Rattle.cc_state_facts.specs.declared.facts.PointFact.{PointFact}
use Rattle.cc_state_facts.specs.declared.facts.Row.{Row}

-- a mark is set once
abbrev pub room_of_mark : Bool → ℕ
room_of_mark mark = if mark then 0 else 1

abbrev pub room_of_marks : List Bool → ℕ
room_of_marks marks = sum_by room_of_mark marks

-- a set of levels from 0 to 7 is a number below 256, and one with more levels is greater
abbrev pub room_of_levels : ℕ → ℕ
room_of_levels levels = 255 - levels

abbrev pub room_of_level_sets : List ℕ → ℕ
room_of_level_sets sets = sum_by room_of_levels sets

abbrev pub room_of_all_marks : {I : Type 0} → Facts I → ℕ
room_of_all_marks facts = room_of_marks facts.by_main + room_of_marks facts.by_handler + room_of_marks facts.handler_reads + room_of_marks facts.handler_writes

abbrev pub room_of_all_levels : {I : Type 0} → Facts I → ℕ
room_of_all_levels facts = room_of_level_sets facts.levels + room_of_level_sets facts.from + room_of_level_sets facts.read_levels + room_of_level_sets facts.write_levels

-- more than a point that is reached has
abbrev pub room_unreached : ℕ
room_unreached = 2 ^ 100

-- where sets of addresses that are not exact have at most so many members, by the room of a domain
module _ {I : Type 0} (most : ℕ) (room : I → ℕ) where
  abbrev pub room_of_set : Abs I → ℕ
  room_of_set (abs.Ints x) = room x
  room_of_set (abs.Addrs s) = room_left most s

  abbrev pub room_of_sets : List (Abs I) → ℕ
  room_of_sets sets = sum_by room_of_set sets

  abbrev pub room_of_row : Row I → ℕ
  room_of_row row = room_of_sets row.cells

  abbrev pub room_of_rows : List (Row I) → ℕ
  room_of_rows rows = sum_by room_of_row rows

  -- pairs are lost
  abbrev pub room_of_point : PointFact I → ℕ
  room_of_point fact = room_of_mark fact.off + room_of_mark fact.on + room_of_sets fact.locals + room_of_rows fact.rows + length fact.same

  abbrev pub room_of_known : Option (PointFact I) → ℕ
  room_of_known None = room_unreached
  room_of_known (Some fact) = room_of_point fact

  abbrev pub room_of_points : List (Option (PointFact I)) → ℕ
  room_of_points at = sum_by room_of_known at

  -- by key, by function, by point
  abbrev pub room_of_values : Facts I → ℕ
  room_of_values facts = room_of_sets facts.whole + room_of_sets facts.results

  abbrev pub room_of : Facts I → ℕ
  room_of facts = room_of_values facts + room_of_all_marks facts + room_of_all_levels facts + room_of_points facts.at
