use Rattle.std.proofs.Common.{◌≡◌, take, map, true}
use Rattle.std.specs.List.{list_all}
use Rattle.cc_program.specs.declared.stmt.Case.{out-Case}
use Rattle.cc_syntax.specs.Normal.{is_normal_stmt}
use Rattle.cc_normal.proofs.pure.Body.+normal.Given as goal

abbrev pub invariant-are_normal-loop-s : goal.invariant-are_normal-loop-s
invariant-are_normal-loop-s l = list_all (λ b. b) (map (is_normal_stmt l.self.target.now l.self.func.now) (take l.s-index l.s-items)) ≡ true

abbrev pub invariant-are_normal_cases-loop-case : goal.invariant-are_normal_cases-loop-case
invariant-are_normal_cases-loop-case l = list_all (λ c. list_all (λ b. b) (map (is_normal_stmt l.self.target.now l.self.func.now) (out-Case c).body)) (take l.case-index l.case-items) ≡ true
