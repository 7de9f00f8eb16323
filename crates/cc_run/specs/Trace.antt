-- The text of a trace: a row for each event, and one for the end. What has no name is left out.
use Rattle.std.specs.Prelude.{ℕ, ◌&&◌, nat_eq, List, [], ◌∷◌, ◌++◌, Some, None, codes, if◌then◌else◌}
use Rattle.std.specs.Fmt.{decimal, signed_decimal}
use Rattle.csv.specs.Writing.{row_text, default_writer}
use Rattle.cc_program.specs.declared.program.Program.{Program}
use Rattle.cc_states.specs.CcSteps.declared.event.End.{End}
use Rattle.cc_states.specs.CcSteps.declared.event.End.TheVariants.{Going, Exit, Trap, Starved}
use Rattle.cc_states.specs.CcSteps.State.{State}
use Rattle.cc_states.specs.CcSteps.Rows.{Name, Into, ToMember, ToElement, Spelled, Device, Static, Auto, SpelledValue, Number, ToNothing, ToFunction, ToObject, Row, Reads, Writes, Enters, rows_of}

abbrev pub name_text : Name → List ℕ
name_text None = []
name_text (Some name) = name

abbrev pub into_text : Into → List ℕ
into_text (ToMember name) = codes "." ++ name_text name
into_text (ToElement index) = codes "[" ++ decimal index ++ codes "]"

abbrev pub steps_text : List Into → List ℕ
steps_text [] = []
steps_text (s ∷ steps) = into_text s ++ steps_text steps

-- a device's name, or `@` and its number; an object with its path, a local with its function behind an `@`
abbrev pub spelled_text : Spelled → List ℕ
spelled_text (Device None number) = codes "@" ++ decimal number
spelled_text (Device (Some name) number) = name
spelled_text (Static name steps) = name_text name ++ steps_text steps
spelled_text (Auto name func steps) = name_text name ++ codes "@" ++ name_text func ++ steps_text steps

-- the last index is left off where it is 0 of an array of one
abbrev pub index_text : ℕ → ℕ → List ℕ
index_text index count = if nat_eq index 0 && nat_eq count 1 then [] else codes "[" ++ decimal index ++ codes "]"

abbrev pub value_text : SpelledValue → List ℕ
value_text (Number n) = signed_decimal n
value_text ToNothing = codes "0"
value_text (ToFunction name) = name_text name
value_text (ToObject object index count) = codes "&" ++ spelled_text object ++ index_text index count

abbrev pub row_fields : Row → List (List ℕ)
row_fields (Reads at v) = codes "read" ∷ spelled_text at ∷ value_text v ∷ []
row_fields (Writes at v) = codes "write" ∷ spelled_text at ∷ value_text v ∷ []
row_fields (Enters handler) = codes "enter" ∷ name_text handler ∷ [] ∷ []

abbrev pub end_fields : End → List (List ℕ)
end_fields Going = codes "end" ∷ codes "going" ∷ [] ∷ []
end_fields (Exit v) = codes "end" ∷ codes "exit" ∷ signed_decimal v ∷ []
end_fields Trap = codes "end" ∷ codes "trap" ∷ [] ∷ []
end_fields Starved = codes "end" ∷ codes "starved" ∷ [] ∷ []

abbrev pub rows_text : List Row → List ℕ
rows_text [] = []
rows_text (r ∷ rows) = row_text default_writer (row_fields r) ++ rows_text rows

abbrev pub trace_text : Program → State → List ℕ
trace_text p s = rows_text (rows_of p s.memory.trace) ++ row_text default_writer (end_fields s.end)
