-- What becomes of each kind of statement: the fold, opened at one level.
use Rattle.std.proofs.Common.{◌≡◌, map}
use Rattle.cc_program.specs.declared.stmt.Case.{Case, out-Case, fold_out-Case}
use Rattle.cc_program.specs.declared.stmt.Stmt.{Stmt, out-Stmt, map-Stmt, fold_out-Stmt}
use Rattle.cc_program.specs.declared.stmt.Stmt.TheOpen as is
use Rattle.cc_lower_continues.specs.Continues.{Flagging, CaseFlagging, flagging_in, case_flagging_in, flagging, case_flagging}

-- one level of a statement
abbrev pub flagging_layer : is.Stmt-F Stmt Case → Flagging
flagging_layer x = flagging_in (map-Stmt Stmt Case Flagging CaseFlagging flagging case_flagging x)

pub flagging-out : (s : Stmt) → flagging s ≡ flagging_layer (out-Stmt s)
unfolding flagging case_flagging
flagging-out s = fold_out-Stmt Flagging CaseFlagging flagging_in case_flagging_in s

pub case_flagging-out : (c : Case) → case_flagging c ≡ case_flagging_in (record { labels = (out-Case c).labels; body = map flagging (out-Case c).body })
unfolding flagging case_flagging
case_flagging-out c = fold_out-Case Flagging CaseFlagging flagging_in case_flagging_in c
