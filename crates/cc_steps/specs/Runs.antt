-- Whole runs, and when one program does what another does.
use Rattle.std.specs.Prelude.{◌≡◌, ℕ, ℤ, Bool, true, false, ◌&&◌, List, [], ◌∷◌, Option}
use Rattle.cc_program.specs.declared.program.Program.{Program}
use Rattle.cc_program.specs.declared.stmt.Case.{Case}
use Rattle.cc_program.specs.declared.stmt.Stmt.{Stmt, out-Stmt}
use Rattle.cc_program.specs.declared.stmt.Stmt.TheOpen as is
use Rattle.cc_control.specs.declared.phase.Phase.{Phase}
use Rattle.cc_control.specs.declared.phase.Phase.TheVariants.{First, Test, Again}
use Rattle.cc_steps.specs.State.{Active, State}
use Rattle.cc_steps.specs.Turn.{is_going, start, turn, enters}
use Rattle.cc_steps.specs.Rows.{rows_of}

-- who arrives at each of the turns; so its length is how many there are
abbrev pub Arrivals : Type 0
Arrivals = List (Option ℕ)

-- the state after the turns
abbrev pub run : Program → State → Arrivals → State
run p s [] = s
run p s (a ∷ rest) = run p (turn p s a) rest

-- what can be seen of a state of q and a state of p is the same: the rows of the trace, and the end
pub record Same (q p : Program) (s t : State) : Type 0 where
  pub trace : rows_of q s.memory.trace ≡ rows_of p t.memory.trace
  pub end : s.end ≡ t.end

-- each run of q has the trace and the end of a run of p with the same inputs
abbrev pub Follows : Program → Program → Type 0
Follows q p =
    (inputs : List ℤ) (arrivals : Arrivals) → (others : Arrivals) × Same q p (run q (start q inputs) arrivals) (run p (start p inputs) others)

abbrev pub is_empty : {A : Type 0} → List A → Bool
is_empty [] = true
is_empty (x ∷ xs) = false

-- the test of a `do` comes behind its body, unless that is empty, and so does the last expression of a `for`
abbrev pub begins_at : is.Stmt-F Stmt Case → Phase → Bool
begins_at (is.Do e) phase = true
begins_at (is.If e a b) phase = true
begins_at (is.While e body) phase = true
begins_at (is.DoWhile body e) phase = is_empty body
begins_at (is.For first test again body) First = true
begins_at (is.For first test again body) Test = true
begins_at (is.For first test again body) Again = false
begins_at (is.Switch e cases) phase = true
begins_at is.Break phase = true
begins_at is.Continue phase = true
begins_at (is.Return e) phase = true
begins_at is.Empty phase = true
begins_at (is.Block body) phase = true

abbrev pub begins : List Stmt → Phase → Bool
begins [] phase = true
begins (s ∷ rest) phase = begins_at (out-Stmt s) phase

-- the next step of the running activation is the first of a statement, of a loop's turn, or of the return at the function's end
abbrev pub running_begins : List Active → Bool
running_begins [] = false
running_begins (a ∷ below) = is_empty a.marks && begins a.here.rest a.here.phase

-- a run that has ended has no next step
abbrev pub IsBoundary : State → Type 0
IsBoundary s = (running_begins s.stack && is_going s.end) ≡ true

-- each entry comes at a boundary
abbrev pub EntersAtBoundaries : Program → State → Arrivals → Type 0
EntersAtBoundaries p s [] = Unit {0}
EntersAtBoundaries p s (a ∷ rest) = (enters p s a ≡ true → IsBoundary s) × EntersAtBoundaries p (turn p s a) rest

-- each run of p that is entered at boundaries is matched by such a run of q
abbrev pub Answers : Program → Program → Type 0
Answers q p =
    (inputs : List ℤ) (arrivals : Arrivals) → EntersAtBoundaries p (start p inputs) arrivals →
    (others : Arrivals) × EntersAtBoundaries q (start q inputs) others × Same q p (run q (start q inputs) others) (run p (start p inputs) arrivals)
