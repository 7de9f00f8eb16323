use Rattle.std.proofs.Common.{◌≡◌, ◌++◌, List, map, OnOk, ap, subst}
use Rattle.cc_program.specs.declared.stmt.Stmt.{Stmt}
use Rattle.cc_lower_bodies.specs.Conditions.{condition_view}
use Rattle.cc_lower_bodies.proofs.ListLemmas.{list-step, cases-step}
use Rattle.cc_lower_bodies.proofs.StatementRules.{guarded-stmts, switch-stmts, fork-made}
use Rattle.cc_lower_bodies.proofs.statements.+statements.Goals as goal

pub lower-returns-in_ok-put_if-in-If-clause-locals : goal.lower-returns-in_ok-put_if-in-If-clause-locals
lower-returns-in_ok-put_if-in-If-clause-locals t c =
    let it =
    fork-made c.args.body.program.now c.args.body.func.now c.args.s.now _ _ _ _ _ _ c.args.locals.now.items _ _ _ c.args.out.now.items _ _ _ _ _ c.in-If.is c.get-in-If.ensures c.all.ensures c.is_empty.ensures c.if-is_empty.false
    c.in_ok-x-in-If.ensures.value c.in_ok-x-in-If.ensures.locals c.in_ok-x-in-If.ensures.statements c.in_ok-made-in-If.ensures.value c.in_ok-made-in-If.ensures.locals c.in_ok-other-in-If.ensures.value
    c.in_ok-other-in-If.ensures.locals c.in_ok-put_if-in-If.ensures in
    it.0

pub lower-returns-in_ok-put_if-in-If-clause-statements : goal.lower-returns-in_ok-put_if-in-If-clause-statements
lower-returns-in_ok-put_if-in-If-clause-statements t c =
    let it =
    fork-made c.args.body.program.now c.args.body.func.now c.args.s.now _ _ _ _ _ _ c.args.locals.now.items _ _ _ c.args.out.now.items _ _ _ _ _ c.in-If.is c.get-in-If.ensures c.all.ensures c.is_empty.ensures c.if-is_empty.false
    c.in_ok-x-in-If.ensures.value c.in_ok-x-in-If.ensures.locals c.in_ok-x-in-If.ensures.statements c.in_ok-made-in-If.ensures.value c.in_ok-made-in-If.ensures.locals c.in_ok-other-in-If.ensures.value
    c.in_ok-other-in-If.ensures.locals c.in_ok-put_if-in-If.ensures in
    it.1

pub if_alone-returns-clause-statements : goal.if_alone-returns-clause-statements
if_alone-returns-clause-statements t c =
    let same =
    guarded-stmts c.args.body.program.now c.args.body.func.now c.args.e.now c.args.these.now c.args.locals.now.items _ _ _ _ (ap (map condition_view) c.new-conditions.ensures.items) c.in_ok-put_conditions.ensures.conditions
    c.in_ok-put_conditions.ensures.locals c.in_ok-these.ensures.value in
    subst (λ (r : List Stmt). OnOk c.put_guarded.result (c.put_guarded.new.out.items ≡ c.args.out.now.items ++ r)) same c.put_guarded.ensures

pub switch-returns-clause-statements : goal.switch-returns-clause-statements
switch-returns-clause-statements t c =
    let same =
    switch-stmts c.args.body.program.now c.args.body.func.now c.args.e.now c.args.cases.now c.args.locals.now.items _ c.args.out.now.items _ _ _ c.in_ok-x.ensures.value c.in_ok-x.ensures.locals c.in_ok-x.ensures.statements
    c.in_ok-made.ensures.value in
    subst (λ (r : List Stmt). OnOk c.put_switch.result (c.put_switch.new.out.items ≡ r)) same c.put_switch.ensures

pub lower_list-loop-s-preserved : goal.lower_list-loop-s-preserved
lower_list-loop-s-preserved t c =
    list-step _ _ _ _ _ _ _ _ _ _ c.loop-s-test.true c.s-item.is c.loop-s.invariant.0 c.loop-s.invariant.1 c.in_ok-lower.ensures.locals c.in_ok-lower.ensures.statements

pub lower_cases-loop-case-preserved : goal.lower_cases-loop-case-preserved
lower_cases-loop-case-preserved t c =
    cases-step _ _ _ _ _ _ _ _ _ _ _ c.loop-case-test.true c.case-item.is c.loop-case.invariant.0 c.loop-case.invariant.1 c.in_ok-made.ensures.locals c.in_ok-made.ensures.value c.in_ok-push.ensures.items
