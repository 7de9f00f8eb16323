-- A turn of a run: one step of the program, or the entry of a handler.
use Rattle.std.specs.Prelude.{ℕ, ℤ, Bool, true, false, List, [], ◌∷◌, Option, Some, None, option_map, map, max, nat_lt, nat_eq, ◌&&◌, ◌||◌, slice_get, is_some, if◌then◌else◌}
use Rattle.std.specs.Str.{bytes_eq}
use Rattle.cc_program.specs.declared.func.Func.{Func}
use Rattle.cc_program.specs.declared.program.Program.{Program}
use Rattle.cc_steps.specs.declared.event.End.{End}
use Rattle.cc_steps.specs.declared.event.End.TheVariants.{Going, Exit, Trap, Starved}
use Rattle.cc_steps.specs.declared.event.Event.TheVariants.{Enter}
use Rattle.cc_steps.specs.declared.event.Took.{Took}
use Rattle.cc_steps.specs.declared.event.Took.TheVariants.{Entered, Stepped, Ended}
use Rattle.cc_eval.specs.CcSyntax.Operators.{is_handler}
use Rattle.cc_steps.specs.State.{Active, State, first_values}
use Rattle.cc_steps.specs.Step.{with_flag, with_event, activation, opened, proceed}

-- whether a run goes on
abbrev pub is_going : End → Bool
is_going Going = true
is_going (Exit v) = false
is_going Trap = false
is_going Starved = false

-- what enters is a handler of the program
abbrev pub only_handler : Option Func → Option Func
only_handler None = None
only_handler (Some f) = if is_handler f then Some f else None

-- the number that the roles give to a name, else 0
abbrev pub named_level : List (List ℕ × ℕ) → List ℕ → ℕ
named_level [] name = 0
named_level (l ∷ ls) name = if bytes_eq name l.0 then l.1 else named_level ls name

module _ (p : Program) where
  abbrev pub first_of_stack : Option Func → List Active
  first_of_stack None = []
  first_of_stack (Some f) = activation p 0 p.main false [] f ∷ []

  -- before the first turn the flag is off, each object has its first values, and main has begun
  abbrev pub start : List ℤ → State
  start inputs = record {
    memory = record { flag = false; statics = map (first_values p) p.objects; inputs = inputs; trace = [] };
    stack = first_of_stack (slice_get p.funcs p.main);
    opened = 1;
    end = Going;
  }

  abbrev pub level_in : Option Func → ℕ
  level_in None = 0
  level_in (Some f) = named_level p.roles.levels f.name

  abbrev pub level_of : ℕ → ℕ
  level_of f = level_in (slice_get p.funcs f)

  -- the greatest level of the handlers' activations, and 0 where there is none
  abbrev pub running_level : List Active → ℕ
  running_level [] = 0
  running_level (a ∷ below) = if a.handler then max (level_of a.func) (running_level below) else running_level below

  -- it may enter where the flag is on, and its level is 0 or above the running one
  abbrev pub may_enter : State → ℕ → Bool
  may_enter s h = s.memory.flag && (nat_eq (level_of h) 0 || nat_lt (running_level s.stack) (level_of h))

  -- the handler that an arrival makes enter, if it makes one
  abbrev pub entering : State → Option ℕ → Option (ℕ × Func)
  entering s None = None
  entering s (Some h) = if is_going s.end && may_enter s h then option_map (λ f. (h, f)) (only_handler (slice_get p.funcs h)) else None

  abbrev pub enters : State → Option ℕ → Bool
  enters s arrival = is_some (entering s arrival)

  -- the flag goes off, and the handler's activation runs from now on
  abbrev pub entered : State → ℕ × Func → State
  entered s h = opened p (with_event true (with_flag s false) (Enter h.0)) h.0 true [] h.1

  abbrev pub turn_by : State → Option (ℕ × Func) → State
  turn_by s (Some h) = entered s h
  turn_by s None = if is_going s.end then proceed p s s.stack else s

  -- once a run has ended, turns change nothing
  abbrev pub turn : State → Option ℕ → State
  turn s arrival = turn_by s (entering s arrival)

  -- what a turn is
  abbrev pub took : State → Option ℕ → Took
  took s arrival = if enters s arrival then Entered else (if is_going s.end then Stepped else Ended)
