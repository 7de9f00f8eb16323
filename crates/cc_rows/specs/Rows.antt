-- The rows of a text: its records as CSV (RFC 4180), none of them a header, of any number of fields and with nothing
-- trimmed. A byte order mark at the start is left off, and an empty line is no record.
use Rattle.std.specs.Prelude.{ℕ, List}
use Rattle.csv.specs.Reading.{default_config, records, strip_bom}

-- the fields of a row
abbrev pub Row : Type 0
Row = List (List ℕ)

unfoldable pub rows_of : List ℕ → List Row
rows_of text = records default_config (strip_bom text)
