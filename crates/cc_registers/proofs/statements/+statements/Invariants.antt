use Rattle.std.proofs.Common.{◌≡◌, ◌++◌, take}
use Rattle.std.specs.List.{flat_map}
use Rattle.cc_program.specs.declared.stmt.Case.{out-Case}
use Rattle.cc_registers.specs.Taken.{taken_by_all}
use Rattle.cc_registers.proofs.statements.+statements.Given as goal

abbrev pub invariant-put_list-loop-s : goal.invariant-put_list-loop-s
invariant-put_list-loop-s l = l.out.items ≡ l.fn.out.items ++ taken_by_all (take l.s-index l.s-items)

abbrev pub invariant-put_cases-loop-case : goal.invariant-put_cases-loop-case
invariant-put_cases-loop-case l = l.out.items ≡ l.fn.out.items ++ flat_map (λ c. taken_by_all (out-Case c).body) (take l.case-index l.case-items)
