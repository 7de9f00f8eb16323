-- Runs of a program with arrivals at some turns.
use Rattle.std.specs.Prelude.{ℕ, zero, suc, ◌+◌, ℤ, Bool, true, ◌&&◌, nat_eq, nat_lt, List, [], ◌∷◌, Option, Some, None, if◌then◌else◌}
use Rattle.cc_program.specs.declared.program.Program.{Program}
use Rattle.cc_states.specs.CcSteps.State.{State}
use Rattle.cc_states.specs.CcSteps.Turn.{start}
use Rattle.cc_states.specs.CcSteps.Runs.{run}

-- each turn is greater than the one before it, the first than `last`
abbrev pub turns_ascend : ℕ → List (ℕ × ℕ) → Bool
turns_ascend last [] = true
turns_ascend last (a ∷ arrivals) = nat_lt last a.0 && turns_ascend a.0 arrivals

-- who arrives at a turn, counted from 1
abbrev pub arrival_at : List (ℕ × ℕ) → ℕ → Option ℕ
arrival_at [] turn = None
arrival_at (a ∷ arrivals) turn = if nat_eq a.0 turn then Some a.1 else arrival_at arrivals turn

-- who arrives at each of so many turns, from a first one on
abbrev pub arrivals_for : List (ℕ × ℕ) → ℕ → ℕ → List (Option ℕ)
arrivals_for arrivals turn zero = []
arrivals_for arrivals turn (suc count) = arrival_at arrivals turn ∷ arrivals_for arrivals (turn + 1) count

-- the state after so many turns
abbrev pub driven : Program → List ℤ → List (ℕ × ℕ) → ℕ → State
driven p inputs arrivals turns = run p (start p inputs) (arrivals_for arrivals 1 turns)

-- who arrives at a turn, of arrivals that come no earlier, and those that come later
abbrev pub first_of : List (ℕ × ℕ) → ℕ → Option ℕ
first_of [] turn = None
first_of (a ∷ arrivals) turn = if nat_eq a.0 turn then Some a.1 else None

abbrev pub left_behind : List (ℕ × ℕ) → ℕ → List (ℕ × ℕ)
left_behind [] turn = []
left_behind (a ∷ arrivals) turn = if nat_eq a.0 turn then arrivals else a ∷ arrivals
