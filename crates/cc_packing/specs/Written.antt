-- What is written of a program in normal form, beside the RAM that was taken before.
use Rattle.std.specs.Prelude.{◌≡◌, ◌≤◌, ℕ, List, [], ◌∷◌, length}
use Rattle.cc_layout.specs.Seats.{ram}
use Rattle.cc_print.specs.Printed.{text}
use Rattle.cc_program.specs.declared.program.Program.{Program}
use Rattle.cc_read.specs.Texts.{Reads}
use Rattle.cc_states.specs.CcSyntax.Normal.{IsNormal}
use Rattle.cc_table.specs.Table.{table_text}

-- the printed text, as which alone the program reads, and the rows of the table
pub record AreTextsOf (before : ℕ) (q : Program) (bytes rows : List ℕ) : Type 0 where
  pub normal : IsNormal q
  pub printed : bytes ≡ text q
  pub short : length (text q) ≤ 16777216
  pub reads_back : Reads (text q ∷ []) q.target q.roles q
  pub tabled : rows ≡ table_text before (ram q)
