-- What the code's levels stand for.
use Rattle.std.specs.Prelude.{ℕ, ℤ, Bool, true, false, List, [], ◌∷◌, ◌++◌, map, reverse, Option, Some, None}
use Rattle.cc_program.specs.declared.stmt.Case.{Case}
use Rattle.cc_program.specs.declared.stmt.Stmt.{Stmt}
use Rattle.cc_control.specs.declared.level.Left.{Left}
use Rattle.cc_control.specs.declared.level.Level.{Level as LevelAt}
use Rattle.cc_control.specs.declared.level.Control.{Control as ControlAt}
use Rattle.std.specs.Borrow.{Bor}
use Rattle.cc_control.specs.Control.{Level, Control, level, bodies, counted, is_label, is_default}

-- all statements that are left
abbrev pub left_of : Left → List Stmt
left_of l = l.list.now ++ bodies l.cases.now

-- the list has a statement, or there is none at all
abbrev pub is_settled_in : List Stmt → List Case → Bool
is_settled_in (s ∷ list) cases = true
is_settled_in [] [] = true
is_settled_in [] (c ∷ cases) = false

abbrev pub is_settled : Left → Bool
is_settled l = is_settled_in l.list.now l.cases.now

abbrev pub first_of : List Stmt → Option Stmt
first_of [] = None
first_of (s ∷ rest) = Some s

abbrev pub level_of : LevelAt → Level
level_of at = level (left_of at.left) at.position at.phase

-- the levels of a list, the last one first
unfoldable pub levels_of : List LevelAt → List Level
levels_of levels = reverse (map level_of levels)

abbrev pub control_of : ControlAt → Control
control_of at = (level_of at.here, levels_of at.around.items)

-- a number of statements, as it is counted, and statements
abbrev pub counted_at : ℕ × List Stmt → ℕ × List Stmt
counted_at at = (counted at.0, at.1)

abbrev pub found_of : ℕ × Bor (List Case) → ℕ × List Stmt
found_of found = (found.0, bodies found.1.now)

-- the labels that are wanted: a constant, or `default` for none
abbrev pub is_wanted : Option ℤ → Option ℤ → Bool
is_wanted None = is_default
is_wanted (Some v) = is_label v
