-- Where control goes from a statement: a `switch` leads by the value that it chooses by, and what is behind is not inside.
use Rattle.std.specs.Prelude.{◌≤◌, ◌<◌, ◌⊎◌, ℕ, ◌+◌, ◌-◌, ℤ, List, Option, Some, None}
use Rattle.std.specs.List.{list_any}
use Rattle.std.specs.Option.{option_or}
use Rattle.cc_flow_sound.specs.CcControl.Control.{bodies, from_label, is_label, is_default}
use Rattle.cc_flow_sound.specs.CcFlow.declared.next.Site.{Site}
use Rattle.cc_flow_sound.specs.CcFlow.Next.{reached}
use Rattle.cc_flow_sound.specs.CcFlow.Points.{size_of, total_of}
use Rattle.cc_program.specs.declared.stmt.Case.{Case}
use Rattle.cc_program.specs.declared.stmt.Stmt.{Stmt}

-- from these statements on, those of the cases before them being passed; behind it where no label has the value
abbrev pub case_point : List Case → Site → Option (ℕ × List Stmt) → ℕ
case_point cases own None = own.behind
case_point cases own (Some found) = reached (total_of found.1) (own.number + 1 + (total_of (bodies cases) - total_of found.1)) own.behind

abbrev pub switch_point : ℤ → List Case → Site → ℕ
switch_point z cases own = case_point cases own (option_or (from_label (list_any (is_label z)) 0 cases) (from_label (list_any is_default) 0 cases))

-- what is behind a statement of this site is none of its own points
abbrev pub LeadsOut : Stmt → Site → Type 0
LeadsOut s own = (own.behind < own.number) ⊎ (own.number + size_of s ≤ own.behind)
