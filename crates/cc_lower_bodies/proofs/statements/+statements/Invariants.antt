use Rattle.std.proofs.Common.{◌≡◌, ◌++◌, take, length}
use Rattle.cc_lower_accesses.specs.Modes.{as_locals}
use Rattle.cc_lower_bodies.specs.Lists.{list_made, cases_made}
use Rattle.cc_lower_bodies.proofs.statements.+statements.Given as goal

abbrev pub invariant-lower_list-loop-s : goal.invariant-lower_list-loop-s
invariant-lower_list-loop-s l =
    (l.out.items ≡ (list_made l.body.program.now l.body.func.now (take l.s-index l.s-items) (length l.fn.locals.items)).stmts) ×
    (l.locals.items ≡ l.fn.locals.items ++ as_locals (list_made l.body.program.now l.body.func.now (take l.s-index l.s-items) (length l.fn.locals.items)).temps)

abbrev pub invariant-lower_cases-loop-case : goal.invariant-lower_cases-loop-case
invariant-lower_cases-loop-case l =
    (l.out.items ≡ (cases_made l.body.program.now l.body.func.now (take l.case-index l.case-items) (length l.fn.locals.items)).value) ×
    (l.locals.items ≡ l.fn.locals.items ++ as_locals (cases_made l.body.program.now l.body.func.now (take l.case-index l.case-items) (length l.fn.locals.items)).temps)
