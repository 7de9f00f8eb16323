use Rattle.std.proofs.Common.{◌≡◌, ◌++◌, take}
use Rattle.cc_lower_statements.specs.Statements.{optional_statement, lower_list, lower_cases}
use Rattle.cc_lower_statements.proofs.statements.+lower.Given as goal

abbrev pub invariant-lower_list-loop-s : goal.invariant-lower_list-loop-s
invariant-lower_list-loop-s l = l.out.items ≡ l.fn.out.items ++ lower_list (take l.s-index l.s-items) (optional_statement l.step)

abbrev pub invariant-lower_cases-loop-case : goal.invariant-lower_cases-loop-case
invariant-lower_cases-loop-case l = l.out.items ≡ lower_cases (take l.case-index l.case-items) (optional_statement l.step)
