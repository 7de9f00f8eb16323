-- Tracked cells with their first values, in rows of 16.
use Rattle.std.specs.Prelude.{◌≡◌, ◌<◌, ◌≤◌, ◌+◌, ◌-◌, ◌/◌, ◌%◌, min, ℕ, ℤ, List, length, Option, Some, option_and_then, slice_get}
use Rattle.cc_rules_asked.specs.CcCells.Cells.{scalar_in}
use Rattle.cc_rules_asked.specs.CcPlaces.declared.abs.Abs.{Abs}
use Rattle.cc_program.specs.declared.value.Value.{Value}
use Rattle.cc_rules_firsts.specs.Firsts.{IsLeastWith, MayStand}
use Rattle.cc_rules_asked.specs.CcStateFacts.declared.facts.Row.{Row}
use Rattle.cc_rules_asked.specs.CcStateFacts.Facts.{row_length}

-- the tracked objects have first values that may stand in sets
abbrev pub HaveFirsts : List (List Value) → List ℕ → Type 0
HaveFirsts values objects = (n i : ℕ) → slice_get objects n ≡ Some i → (v : Value) × (scalar_in values i 0 ≡ Some v) × MayStand v

-- the set of a cell among rows
abbrev pub cell_in : {I : Type 0} → List (Row I) → ℕ → Option (Abs I)
cell_in {I = I} rows cell = option_and_then (λ (row : Row I). slice_get row.cells (cell % row_length)) (slice_get rows (cell / row_length))

-- a row that begins at one of so many cells has 16, or those that are left
pub record IsRowSize (count first size : ℕ) : Type 0 where
  pub begins : first ≤ count
  pub is : size ≡ min row_length (count - first)

module _ {I : Type 0} (has : I → ℤ → Type 0) (below : I → I → Type 0) (values : List (List Value)) where
  -- a set is the least one that has the first value of an object
  abbrev pub IsFirstOf : ℕ → Abs I → Type 0
  IsFirstOf i y = (v : Value) → scalar_in values i 0 ≡ Some v → IsLeastWith has below v y

module _ {I : Type 0} (has : I → ℤ → Type 0) (below : I → I → Type 0) (values : List (List Value)) (objects : List ℕ) where
  abbrev pub HasCell : List (Abs I) → ℕ → ℕ → Type 0
  HasCell sets n i = (y : Abs I) × (slice_get sets n ≡ Some y) × IsFirstOf has below values i y

  -- these are the sets of the objects from one on
  pub record AreFrom (first : ℕ) (sets : List (Abs I)) (next : ℕ) : Type 0 where
    pub count : first + length sets ≡ next
    pub each : (n i : ℕ) → n < length sets → slice_get objects (first + n) ≡ Some i → HasCell sets n i

  -- a row begins at this one: it has those of all objects that it has room for
  abbrev pub IsRowFrom : ℕ → List (Abs I) → Type 0
  IsRowFrom first sets = (n i : ℕ) → n < row_length → slice_get objects (first + n) ≡ Some i → HasCell sets n i

  -- in rows, each object has its set
  abbrev pub AreFirstRows : List (Row I) → Type 0
  AreFirstRows rows = (n i : ℕ) → slice_get objects n ≡ Some i → (y : Abs I) × (cell_in rows n ≡ Some y) × IsFirstOf has below values i y
