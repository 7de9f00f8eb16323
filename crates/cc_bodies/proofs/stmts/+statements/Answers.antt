use Rattle.cc_bodies.proofs.StmtLemmas.{if_at, while_at, switch_at}
use Rattle.cc_bodies.proofs.stmts.+statements.Goals as goal

-- src/stmts.rt:164:1
pub put_stmt-returns-in_ok-put_head-in-If : goal.put_stmt-returns-in_ok-put_head-in-If
put_stmt-returns-in_ok-put_head-in-If t c =
    if_at c.args.c.program.now c.args.c.func.now c.args.s.now c.in-If.e c.get-in-If.result.now c.in-If.a c.in-If.b _ _ c.args.level _ _ _ _ _ _ c.in-If.is c.get-in-If.ensures c.all-in-If.ensures c.all.ensures c.in_ok-deeper-in-If.ensures
    c.in_ok-put_closed-in-If.ensures c.in_ok-put_else-in-If.ensures c.in_ok-put_list-in-If.ensures c.in_ok-put_head-in-If.ensures

pub put_stmt-returns-in_ok-put_head-in-While : goal.put_stmt-returns-in_ok-put_head-in-While
put_stmt-returns-in_ok-put_head-in-While t c =
    while_at c.args.c.program.now c.args.c.func.now c.args.s.now c.in-While.e c.get-in-While.result.now c.in-While.a _ c.args.level _ _ _ _ _ c.in-While.is c.get-in-While.ensures c.all-in-While.ensures c.in_ok-deeper-in-While.ensures
    c.in_ok-put_closed-in-While.ensures c.in_ok-put_list-in-While.ensures c.in_ok-put_head-in-While.ensures

pub put_stmt-returns-in_ok-put_head-in-Switch : goal.put_stmt-returns-in_ok-put_head-in-Switch
put_stmt-returns-in_ok-put_head-in-Switch t c =
    switch_at c.args.c.program.now c.args.c.func.now c.args.s.now c.in-Switch.e c.get-in-Switch-2.result.now c.get-in-Switch.result.now c.in-Switch.cases _ _ c.args.level _ _ _ _ c.in-Switch.is c.get-in-Switch-2.ensures c.get-in-Switch.ensures c.all-in-Switch.ensures c.label_type_in.ensures
    c.in_ok-put_closed-in-Switch.ensures c.in_ok-put_cases-in-Switch.ensures c.in_ok-put_head-in-Switch.ensures
