use Rattle.std.proofs.Common.{◌≡◌, ◌<◌, ℕ, List, Some, map, true}
use Rattle.csv.specs.Reading.{Reached, Ready, default_config, is_flexible, source_of, strip_bom}
use Rattle.csv.specs.declared.parser.State.TheVariants as st
use Rattle.csv.specs.declared.reader.Trim.TheVariants as trim
use Rattle.cc_rows.specs.Rows.{Row}
use Rattle.cc_rows.proofs.row.lines_of.Given as goal

abbrev pub invariant-loop-row : goal.invariant-loop-row
invariant-loop-row g l = (l.row-iterator.rdr.now.trim ≡ trim.None) × Ready l.row-iterator.rdr.now × (0 < l.row-iterator.left) × (l.row-iterator.rdr.now.config ≡ default_config)
    × (y : List ℕ) × (source_of (λ s. Some s.now) l.row-iterator.rdr.now ≡ Some y)
    × (rows : List Row) × Reached default_config st.StartRecord (strip_bom l.fn.text) rows l.row-iterator.rdr.now.state y
    × (l.lines.items ≡ map g.R.FromRow.said_by rows) × (is_flexible l.row-iterator.rdr.now ≡ true)
