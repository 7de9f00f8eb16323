-- The table of a plan: a header, a row for each slot, and a row of totals, as lines of fields with commas between them.
use Rattle.std.specs.Prelude.{ℕ, ◌+◌, List, [], ◌∷◌, ◌++◌, codes}
use Rattle.std.specs.Fmt.{decimal}
use Rattle.csv.specs.Writing.{row_text, default_writer}
use Rattle.cc_cost_ranking.specs.declared.costs.Cost.{Cost}
use Rattle.cc_plan_legal.specs.declared.kinds.Plan.{Plan}
use Rattle.cc_program.specs.declared.program.Program.{Program}
use Rattle.cc_slots_types.specs.declared.slot.Slot.{Slot}
use Rattle.cc_plan_table.specs.declared.row.Ram.{Ram}
use Rattle.cc_plan_table.specs.declared.row.Row.{Row as RowOf}
use Rattle.cc_plan_table.specs.declared.standing.Standing.{Standing}
use Rattle.cc_plan_table.specs.declared.totals.Totals.{Totals}
use Rattle.cc_plan_table.specs.Columns.{bits_column, class_text, coding_column, reason_column, values_column, word_column}
use Rattle.cc_plan_table.specs.Standings.{standing_of}
use Rattle.cc_plan_table.specs.Totals.{totals_of}

-- the fields of a row
abbrev pub Row : Type 0
Row = List (List ℕ)

unfoldable pub header : Row
header = codes "slot" ∷ codes "class" ∷ codes "values" ∷ codes "bits" ∷ codes "coding" ∷ codes "word" ∷ codes "reason" ∷ []

unfoldable pub slot_row : Program → List (List ℕ) → Slot → Standing → Row
slot_row p words slot s =
    slot.name ∷ class_text slot.class ∷ values_column p slot ∷ bits_column slot ∷ coding_column slot s ∷ word_column words slot s ∷ reason_column slot s ∷ []

abbrev pub slot_rows : Program → List (List ℕ) → Plan → ℕ → List Slot → List Row
slot_rows p words plan number [] = []
slot_rows p words plan number (slot ∷ more) = slot_row p words slot (standing_of plan number) ∷ slot_rows p words plan (number + 1) more

-- the RAM before and after; the bytes of tables, the code and the time that the coded slots cost, and how many they are
unfoldable pub total_row : Ram → Totals → Row
total_row ram t = codes "total" ∷ decimal ram.before ∷ decimal ram.after ∷ decimal t.rom ∷ decimal t.code ∷ decimal t.time ∷ decimal t.coded ∷ []

abbrev pub table_rows : Program → List (List ℕ) → List Slot → Plan → List Cost → Ram → List Row
table_rows p words slots plan costs ram = header ∷ slot_rows p words plan 0 slots ++ total_row ram (totals_of plan costs slots) ∷ []

-- a row is a record of CSV (RFC 4180), with a line feed behind it
unfoldable pub line_of : Row → List ℕ
line_of row = row_text default_writer row

abbrev pub rows_text : List Row → List ℕ
rows_text [] = []
rows_text (r ∷ rows) = line_of r ++ rows_text rows

abbrev pub table_text : Program → List (List ℕ) → List Slot → Plan → List Cost → Ram → List ℕ
table_text p words slots plan costs ram = rows_text (table_rows p words slots plan costs ram)

-- the fields that are to be written
abbrev pub fields_of : RowOf → Row
fields_of r = r.slot.now ∷ r.class.now ∷ r.values.now ∷ r.bits.now ∷ r.coding.now ∷ r.word.now ∷ r.reason.now ∷ []
