-- Where an activation stands, without the positions in its lists of statements: no step depends on them, and programs that do the same have
-- other ones (C99 6.8).
use Rattle.std.specs.Prelude.{◌∷◌, if◌then◌else◌, ℕ, ℤ, Bool, true, false, List, [], map, Option, Some, None}
use Rattle.std.specs.List.{list_any}
use Rattle.std.specs.Option.{option_or}
use Rattle.cc_program.specs.declared.stmt.Case.{Case}
use Rattle.cc_program.specs.declared.stmt.Stmt.{Stmt}
use Rattle.cc_program.specs.declared.stmt.Stmt.TheOpen as is
use Rattle.cc_program.specs.declared.value.Value.{Value}
use Rattle.cc_steps.specs.CcControl.declared.phase.Phase.{Phase}
use Rattle.cc_steps.specs.CcControl.declared.phase.Phase.TheVariants.{First}
use Rattle.cc_steps.specs.CcControl.Control.{Level, Control, level, is_loop, is_left_by_break, begun, behind_first, first_is, coming, from_label, is_label, is_default}
use Rattle.cc_steps.specs.Step.{is_passed, number_in}
use Rattle.cc_steps.specs.CcValues.Values.{is_true}

-- what is left of a list of statements, and which full expression of its first statement is worked or comes
pub record Remainder : Type 0 where
  pub rest : List Stmt
  pub phase : Phase

abbrev pub remainder : List Stmt → Phase → Remainder
remainder rest phase = record { rest = rest; phase = phase }

-- the innermost list, and those around it
abbrev pub Continuation : Type 0
Continuation = Remainder × List Remainder

abbrev pub remainder_of : Level → Remainder
remainder_of at = remainder at.rest at.phase

abbrev pub remainders : List Level → List Remainder
remainders around = map remainder_of around

abbrev pub continuation_of : Control → Continuation
continuation_of at = (remainder_of at.0, remainders at.1)

-- with any position
abbrev pub at_zero : Remainder → Level
at_zero at = level at.rest 0 at.phase

-- begins a statement, by what stands behind it and the lists around
abbrev pub begin_with : Stmt → List Stmt → List Remainder → Continuation
begin_with s rest around = continuation_of (begun s 0 rest (map at_zero around))

-- goes on with a list: one that is done gives way to the one around it, a loop's body to what comes behind it
abbrev pub resume : List Stmt → List Remainder → Continuation
resume (s ∷ rest) around = begin_with s rest around
resume [] [] = (remainder [] First, [])
resume [] (at ∷ around) = if first_is is_loop at.rest then (at, around) else resume (behind_first at.rest) around

-- behind the first statement
abbrev pub past : Remainder → List Remainder → Continuation
past at around = resume (behind_first at.rest) around

-- behind the innermost loop or switch (6.8.6.3)
abbrev pub break_out : List Remainder → Continuation
break_out [] = (remainder [] First, [])
break_out (at ∷ around) = if first_is is_left_by_break at.rest then past at around else break_out around

-- behind the body of the innermost loop (6.8.6.2)
abbrev pub continue_on : List Remainder → Continuation
continue_on [] = (remainder [] First, [])
continue_on (at ∷ around) = if first_is is_loop at.rest then (at, around) else continue_on around

-- what is left around the list inside its first statement
abbrev pub enclosing : Remainder → Remainder
enclosing at = remainder at.rest (coming at.rest)

-- the arm of an `if` (6.8.4.1)
abbrev pub in_arm : Bool → List Stmt → List Stmt → List Remainder → Continuation
in_arm true these those around = resume these around
in_arm false these those around = resume those around

-- a turn of a loop, or what stands behind it (6.8.5)
abbrev pub in_loop : Bool → List Stmt → Remainder → List Remainder → Continuation
in_loop true body at around = resume body (enclosing at ∷ around)
in_loop false body at around = past at around

-- from there on, or behind the `switch`
abbrev pub in_cases : Option (ℕ × List Stmt) → Remainder → List Remainder → Continuation
in_cases None at around = past at around
in_cases (Some x) at around = resume x.1 (enclosing at ∷ around)

-- the case that a `switch` chooses, if it chooses one (6.8.4.2)
abbrev pub found_case : ℤ → List Case → Option (ℕ × List Stmt)
found_case v cases = option_or (from_label (list_any (is_label v)) 0 cases) (from_label (list_any is_default) 0 cases)

-- where a statement goes on once the value of its full expression is known
abbrev pub next_continuation : is.Stmt-F Stmt Case → Remainder → List Remainder → Value → Continuation
next_continuation (is.Do e) at around v = past at around
next_continuation (is.If e these those) at around v = in_arm (is_true v) these those (enclosing at ∷ around)
next_continuation (is.While e body) at around v = in_loop (is_true v) body at around
next_continuation (is.DoWhile body e) at around v = in_loop (is_true v) body at around
next_continuation (is.For first test again body) at around v = in_loop (is_passed test v) body at around
next_continuation (is.Switch e cases) at around v = in_cases (found_case (number_in v) cases) at around
next_continuation is.Break at around v = break_out around
next_continuation is.Continue at around v = continue_on around
next_continuation (is.Return e) at around v = past at around
next_continuation is.Empty at around v = past at around
next_continuation (is.Block body) at around v = past at around
