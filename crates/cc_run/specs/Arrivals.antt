-- Arrivals: a turn and the name of a handler in each row, in the order of the turns.
use Rattle.std.specs.Prelude.{ℕ, ◌+◌, ◌-◌, ◌^◌, ◌&&◌, nat_lt, List, [], ◌∷◌, Option, Some, None, option_map, if◌then◌else◌}
use Rattle.std.specs.Str.{bytes_eq}
use Rattle.cc_program.specs.declared.func.Func.{Func}
use Rattle.cc_states.specs.CcSyntax.Operators.{is_handler}
use Rattle.cc_rows.specs.Numbers.{number_in}
use Rattle.cc_rows.specs.Rows.{Row}
use Rattle.cc_run.specs.declared.arrivals.ArrivalLine.{ArrivalLine}
use Rattle.cc_run.specs.declared.arrivals.Written.{Written}

-- what a row writes: a turn, which is a number from 1 of 32 bits, and a name
abbrev pub written_in : Row → Option Written
written_in [] = None
written_in (turn ∷ []) = None
written_in (turn ∷ name ∷ []) = option_map (λ n. record { turn = n; name = name }) (number_in 1 (2 ^ 32 - 1) turn)
written_in (turn ∷ name ∷ more ∷ rest) = None

-- the same, as it is kept
abbrev pub line_of : Row → ArrivalLine
line_of row = record { written = written_in row }

abbrev pub written_of : ArrivalLine → Option Written
written_of line = line.written

-- an id has 32 bits
abbrev pub id_of : Option ℕ → Option ℕ
id_of None = None
id_of (Some place) = if nat_lt place (2 ^ 32) then Some place else None

-- where the first handler of a name stands, of functions from this place on
abbrev pub handler_from : ℕ → List ℕ → List Func → Option ℕ
handler_from place name [] = None
handler_from place name (f ∷ funcs) = if is_handler f && bytes_eq name f.name then Some place else handler_from (place + 1) name funcs

abbrev pub handler_named : List Func → List ℕ → Option ℕ
handler_named funcs name = id_of (handler_from 0 name funcs)

-- the turn and the handler that a row gives where the row before it has the turn `last`
abbrev pub arrival_of : List Func → ℕ → Option Written → Option (ℕ × ℕ)
arrival_of funcs last None = None
arrival_of funcs last (Some w) = if nat_lt last w.turn then option_map (λ handler. (w.turn, handler)) (handler_named funcs w.name) else None

-- the turn of a row that gives an arrival, else that of the row before it
abbrev pub turn_behind : ℕ → Option (ℕ × ℕ) → ℕ
turn_behind last None = last
turn_behind last (Some arrival) = arrival.0

-- what each of the rows gives; the first has the turn 0 before it
abbrev pub arrivals_from : List Func → ℕ → List (Option Written) → List (Option (ℕ × ℕ))
arrivals_from funcs last [] = []
arrivals_from funcs last (w ∷ rows) = arrival_of funcs last w ∷ arrivals_from funcs (turn_behind last (arrival_of funcs last w)) rows
