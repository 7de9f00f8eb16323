-- The first row that gives nothing, and what a fault of reading tells of it.
use Rattle.std.specs.Prelude.{ℕ, ◌≡◌, ◌+◌, ◌-◌, ◌^◌, ⊤, min, List, [], ◌∷◌, Option, Some, None, option_map}
use Rattle.cc_run.specs.declared.fault.RowFault.{RowFault}
use Rattle.cc_run.specs.declared.fault.RowFault.TheVariants as fault

-- its number, from 1
abbrev pub first_none : {A : Type 0} → List (Option A) → Option ℕ
first_none [] = None
first_none (None ∷ rows) = Some 1
first_none (Some a ∷ rows) = option_map (λ n. n + 1) (first_none rows)

-- there is such a row, and the fault has its number, which stands still at the greatest of 32 bits; memory may run out anywhere
abbrev pub TellsRow : Option ℕ → RowFault → Type 0
TellsRow first (fault.Row row) = option_map (λ n. min n (2 ^ 32 - 1)) first ≡ Some row
TellsRow first fault.NoMemory = ⊤
