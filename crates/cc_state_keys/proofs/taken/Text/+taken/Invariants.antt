use Rattle.std.proofs.Common.{◌≡◌, ◌++◌, take, map}
use Rattle.std.specs.List.{flat_map}
use Rattle.cc_program.specs.declared.stmt.Case.{out-Case}
use Rattle.cc_state_keys.specs.Addressed.{all_taken, taken_in_stmt}
use Rattle.cc_state_keys.proofs.taken.Text.+taken.Given as goal

abbrev pub invariant-put_taken_in_list-loop-s : goal.invariant-put_taken_in_list-loop-s
invariant-put_taken_in_list-loop-s l = l.keys.items ≡ l.fn.keys.items ++ all_taken (map (taken_in_stmt l.self.program.now l.self.id l.self.func.now) (take l.s-index l.list))

abbrev pub invariant-put_taken_in_cases-loop-case : goal.invariant-put_taken_in_cases-loop-case
invariant-put_taken_in_cases-loop-case l =
    l.keys.items ≡ l.fn.keys.items ++ flat_map (λ c. all_taken (map (taken_in_stmt l.self.program.now l.self.id l.self.func.now) (out-Case c).body)) (take l.case-index l.cases)
