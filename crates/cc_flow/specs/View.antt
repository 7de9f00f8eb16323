-- Cases, and statements with none inside, as the definition has them.
use Rattle.std.specs.Prelude.{ℕ, List, map, is_none, sum_by}
use Rattle.std.specs.List.{list_any}
use Rattle.cc_program.specs.declared.stmt.Case.{Case, out-Case}
use Rattle.cc_program.specs.declared.stmt.Stmt.{Stmt}
use Rattle.cc_program.specs.declared.stmt.Stmt.TheOpen as is
use Rattle.cc_flow.specs.declared.next.Site.{Site}
use Rattle.cc_flow.specs.Points.{CasePiece, pieces, total_of}

abbrev pub case_piece : Case → CasePiece
case_piece c = record { is_default = list_any is_none (out-Case c).labels; body = pieces (out-Case c).body }

abbrev pub case_pieces : List Case → List CasePiece
case_pieces cases = map case_piece cases

abbrev pub case_total : Case → ℕ
case_total c = total_of (out-Case c).body

abbrev pub total_of_cases : List Case → ℕ
total_of_cases cases = sum_by case_total cases

-- where control goes from a statement with none inside
abbrev pub simple_next : is.Stmt-F Stmt Case → Site → ℕ
simple_next is.Break site = site.breaks
simple_next is.Continue site = site.continues
simple_next (is.Return e) site = site.exit
simple_next _ site = site.behind
