use Rattle.std.proofs.Common.{refl, map, ap, ◌∙◌}
use Rattle.cc_program.specs.declared.stmt.Case.{out-Case}
use Rattle.cc_print.specs.Units.{any_true, stmt_acts}
use Rattle.cc_print.proofs.AnyLemmas.{any_in}
use Rattle.cc_print.proofs.uses.+acting.Goals as goal

-- src/uses.rt:86:13
pub cases_act-returns-then-list_acts : goal.cases_act-returns-then-list_acts
cases_act-returns-then-list_acts t c =
    any_in (λ x. any_true (map (stmt_acts c.args.i) (out-Case x).body)) c.args.cases.now c.args.cases.now c.loop-case.case-index c.case-item.result c.list_acts.result
    refl c.loop-case-test.true c.case-item.is (c.list_acts.ensures ∙ ap (λ ss. any_true (map (stmt_acts c.args.i) ss)) c.all.ensures) c.if-list_acts.true

-- src/uses.rt:74:13
pub list_acts-returns-then-stmt_acts : goal.list_acts-returns-then-stmt_acts
list_acts-returns-then-stmt_acts t c =
    any_in (stmt_acts c.args.i) c.args.list.now c.args.list.now c.loop-s.s-index c.s-item.result c.stmt_acts.result
    refl c.loop-s-test.true c.s-item.is c.stmt_acts.ensures c.if-stmt_acts.true
