use Rattle.std.proofs.Common.{◌≡◌, take, is_none, false}
use Rattle.std.specs.List.{list_any}
use Rattle.cc_program.specs.declared.stmt.Case.{out-Case}
use Rattle.cc_flow.proofs.next.has_default.Given as goal

abbrev pub invariant-loop-case : goal.invariant-loop-case
invariant-loop-case l = list_any (λ c. list_any is_none (out-Case c).labels) (take l.case-index l.cases) ≡ false
