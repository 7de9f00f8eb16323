use Rattle.std.proofs.Common.{◌≡◌, take, map, false}
use Rattle.std.specs.List.{list_any}
use Rattle.cc_program.specs.declared.stmt.Case.{out-Case}
use Rattle.cc_syntax.specs.Registers.{is_taken_in}
use Rattle.cc_typed.proofs.registers.+taken.Given as goal

abbrev pub invariant-any_taken-loop-s : goal.invariant-any_taken-loop-s
invariant-any_taken-loop-s l = list_any (λ b. b) (map (is_taken_in l.local) (take l.s-index l.s-items)) ≡ false

abbrev pub invariant-any_case_taken-loop-case : goal.invariant-any_case_taken-loop-case
invariant-any_case_taken-loop-case l = list_any (λ c. list_any (λ b. b) (map (is_taken_in l.local) (out-Case c).body)) (take l.case-index l.case-items) ≡ false
