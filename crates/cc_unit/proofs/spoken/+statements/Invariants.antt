use Rattle.std.proofs.Common.{◌≡◌, ◌++◌, take, map}
use Rattle.cc_unit.specs.Mentioned.{all_of, in_stmt, in_case}
use Rattle.cc_unit.proofs.spoken.+statements.Given as goal

abbrev pub invariant-put_stmts-loop-s : goal.invariant-put_stmts-loop-s
invariant-put_stmts-loop-s l = l.numbers.items ≡ l.initial.numbers.items ++ all_of (map in_stmt (take l.s-index l.list))

abbrev pub invariant-put_cases-loop-case : goal.invariant-put_cases-loop-case
invariant-put_cases-loop-case l = l.numbers.items ≡ l.initial.numbers.items ++ all_of (map in_case (take l.case-index l.cases))
