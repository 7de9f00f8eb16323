use Rattle.std.proofs.Common.{◌≡◌, map}
use Rattle.cc_lower_numbers.specs.Renamed.{number_at, stmt_renamed, case_renamed}
use Rattle.cc_lower_numbers.proofs.stmt.+rename.Given as goal

abbrev pub invariant-rename_stmts-loop-s : goal.invariant-rename_stmts-loop-s
invariant-rename_stmts-loop-s l = l.renamed.items ≡ map (λ s. stmt_renamed (number_at l.locals) (number_at l.devices) s) l.yielded

abbrev pub invariant-rename_cases-loop-case : goal.invariant-rename_cases-loop-case
invariant-rename_cases-loop-case l = l.renamed.items ≡ map (λ c. case_renamed (number_at l.locals) (number_at l.devices) c) l.yielded
