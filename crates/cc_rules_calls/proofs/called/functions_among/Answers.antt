use Rattle.cc_rules_calls.specs.Called.{function_at}
use Rattle.cc_rules_calls.proofs.Listed.{flat_to}
use Rattle.cc_rules_calls.proofs.called.functions_among.Goals as goal

pub loop-member-preserved : goal.loop-member-preserved
loop-member-preserved c =
    flat_to function_at c.args.members.now c.loop-member.member-index c.member-item.result c.loop-member.functions.items c.put_function.new.functions.items c.loop-member-test.true c.member-item.is c.loop-member.invariant c.in_ok-put_function.ensures
