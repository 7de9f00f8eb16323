use Rattle.cc_lower_bodies.proofs.StatementRules.{return-stmts}
use Rattle.cc_lower_bodies.proofs.made.put_return.Goals as goal

pub returns-in_ok-put-in-Some-clause-statements : goal.returns-in_ok-put-in-Some-clause-statements
returns-in_ok-put-in-Some-clause-statements c =
    return-stmts c.args.body.program.now c.args.body.func.now c.args.e.now _ _ _ _ _ c.args.out.now.items _ _ c.in-Some.is c.get.ensures c.in_ok-x-in-Some.ensures.value c.in_ok-x-in-Some-2.ensures
    c.in_ok-x-in-Some.ensures.statements c.in_ok-put-in-Some.ensures
