-- Reads and writes of cells (C99 6.2.4, 6.5.3.2). A local is one of the open activation that has its number; an access
-- changes nothing but the cell.
use Rattle.std.specs.Prelude.{ℕ, ◌==◌, Bool, true, false, List, [], ◌∷◌, Option, Some, None, if◌then◌else◌}
use Rattle.cc_program.specs.declared.value.Value.{Value}
use Rattle.cc_cells.specs.Cells.{scalar_in, with_scalar}
use Rattle.cc_steps.specs.declared.content.Content.{Content}
use Rattle.cc_steps.specs.declared.content.Content.TheVariants.{Gone, Unwritten, Holds}
use Rattle.cc_steps.specs.State.{Active}

abbrev pub content : Option (Option Value) → Content
content None = Unwritten
content (Some None) = Unwritten
content (Some (Some v)) = Holds v

abbrev pub local_content : List Active → ℕ → ℕ → ℕ → Content
local_content [] number local position = Gone
local_content (a ∷ below) number local position =
    if a.number == number then content (scalar_in a.locals local position) else local_content below number local position

abbrev pub with_locals : Active → List (List (Option Value)) → Active
with_locals a locals = record { number = a.number; func = a.func; handler = a.handler; locals = locals; here = a.here; around = a.around; marks = a.marks }

abbrev pub is_open : List Active → ℕ → Bool
is_open [] number = false
is_open (a ∷ below) number = if a.number == number then true else is_open below number

-- the stack with the local written
abbrev pub with_local : List Active → ℕ → ℕ → ℕ → Value → List Active
with_local [] number local position v = []
with_local (a ∷ below) number local position v =
    if a.number == number then with_locals a (with_scalar a.locals local position (Some v)) ∷ below else a ∷ with_local below number local position v
