-- The text of the table: a header, and the row of totals. Each row ends with a line feed.
use Rattle.std.specs.Prelude.{ℕ, List, ◌++◌, codes}
use Rattle.std.specs.Fmt.{decimal}

unfoldable pub header : List ℕ
header = codes "slot,class,values,bits,coding,word,reason\n"

-- the RAM before and after; then the bytes of tables, the code and the time that slots cost, and how many are
-- coded, of which there are none
unfoldable pub total_row : ℕ → ℕ → List ℕ
total_row before after = codes "total," ++ decimal before ++ codes "," ++ decimal after ++ codes ",0,0,0,0\n"

abbrev pub table_text : ℕ → ℕ → List ℕ
table_text before after = header ++ total_row before after
