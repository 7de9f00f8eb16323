-- What facts say of a point, a function and a key.
use Rattle.std.specs.Prelude.{ℕ, ◌/◌, ◌%◌, Bool, true, false, ◌&&◌, nat_eq, List, Option, option_and_then, slice_get, unwrap_or}
use Rattle.std.specs.List.{list_any}
use Rattle.cc_places.specs.declared.abs.Abs.{Abs}
use Rattle.cc_state_facts.specs.declared.facts.Facts.{Facts}
use Rattle.cc_state_facts.specs.declared.facts.PointFact.{PointFact}
use Rattle.cc_state_facts.specs.declared.facts.Row.{Row}

-- how many cells a row has, where it is not the last
abbrev pub row_length : ℕ
row_length = 16

module _ {I : Type 0} where
  -- a row has the sets of the tracked cells from a multiple of 16 on
  abbrev pub cell_of : PointFact I → ℕ → Option (Abs I)
  cell_of fact cell = option_and_then (λ (row : Row I). slice_get row.cells (cell % row_length)) (slice_get fact.rows (cell / row_length))

  abbrev pub local_of : PointFact I → ℕ → Option (Abs I)
  local_of fact local = slice_get fact.locals local

  -- whether the flag may be so
  abbrev pub may_be_in : PointFact I → Bool → Bool
  may_be_in fact true = fact.on
  may_be_in fact false = fact.off

  abbrev pub has_pair : PointFact I → ℕ → ℕ → Bool
  has_pair fact local cell = list_any (λ pair. nat_eq pair.0 local && nat_eq pair.1 cell) fact.same

  -- none where the point is not reached
  abbrev pub fact_at : Facts I → ℕ → Option (PointFact I)
  fact_at facts point = option_and_then (λ (fact : Option (PointFact I)). fact) (slice_get facts.at point)

  abbrev pub cell_at : Facts I → ℕ → ℕ → Option (Abs I)
  cell_at facts point cell = option_and_then (λ fact. cell_of fact cell) (fact_at facts point)

  abbrev pub local_at : Facts I → ℕ → ℕ → Option (Abs I)
  local_at facts point local = option_and_then (λ fact. local_of fact local) (fact_at facts point)

-- a mark, and a set of levels, of a function or a key
abbrev pub mark_of : List Bool → ℕ → Bool
mark_of marks n = unwrap_or (slice_get marks n) false

abbrev pub levels_of : List ℕ → ℕ → ℕ
levels_of sets n = unwrap_or (slice_get sets n) 0
