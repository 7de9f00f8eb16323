use Rattle.std.proofs.Common.{◌≡◌, take, map}
use Rattle.cc_unit.specs.Renumbered.{stmt_renumbered, case_renumbered}
use Rattle.cc_unit.proofs.stmt.+renumber.Given as goal

abbrev pub invariant-renumber_stmts-loop-s : goal.invariant-renumber_stmts-loop-s
invariant-renumber_stmts-loop-s l = l.renumbered.items ≡ map (λ s. stmt_renumbered l.ids s) (take l.s-index l.s-items)

abbrev pub invariant-renumber_cases-loop-case : goal.invariant-renumber_cases-loop-case
invariant-renumber_cases-loop-case l = l.renumbered.items ≡ map (λ c. case_renumbered l.ids c) (take l.case-index l.case-items)
