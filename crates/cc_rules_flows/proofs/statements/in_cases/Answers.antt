use Rattle.std.proofs.Common.{arith, sym, ◌∙◌}
use Rattle.cc_rules_flows.proofs.CaseBodies.{behind_body, within_body}
use Rattle.cc_rules_flows.proofs.statements.in_cases.Goals as goal

pub loop-case-preserved : goal.loop-case-preserved
loop-case-preserved c =
    behind_body c.args.cases.now c.loop-case.case-index c.case-item.result c.all-body.result.now c.args.position c.loop-case.left _ c.loop-case-test.true c.case-item.is c.all-body.ensures (omega arith) c.loop-case.invariant

pub returns-then-left-body : goal.returns-then-left-body
returns-then-left-body c =
    c.at.ensures
    ∙ sym (within_body c.args.cases.now c.loop-case.case-index c.case-item.result c.all-body.result.now c.args.position c.loop-case.left c.loop-case-test.true c.case-item.is c.all-body.ensures (omega arith) c.loop-case.invariant)
