use Rattle.std.proofs.Common.{◌≡◌, false, map, take}
use Rattle.cc_program.specs.declared.stmt.Case.{out-Case}
use Rattle.cc_print.specs.Units.{any_true, stmt_acts}
use Rattle.cc_print.proofs.uses.+acting.Given as goal

abbrev pub invariant-list_acts-loop-s : goal.invariant-list_acts-loop-s
invariant-list_acts-loop-s l = any_true (map (stmt_acts l.i) (take l.s-index l.list)) ≡ false

abbrev pub invariant-cases_act-loop-case : goal.invariant-cases_act-loop-case
invariant-cases_act-loop-case l = any_true (map (λ c. any_true (map (stmt_acts l.i) (out-Case c).body)) (take l.case-index l.cases)) ≡ false
