use Rattle.cc_rules_asked.proofs.Listed.{numbered_on}
use Rattle.cc_rules_asked.proofs.keys.numbers_of.Goals as goal

pub loop-key-preserved : goal.loop-key-preserved
loop-key-preserved c =
    numbered_on c.args.p.now c.args.named.now c.loop-key.numbers.items c.push.new.self.items c.loop-key.key-index _ c.number_of.result c.loop-key.invariant c.number_of.ensures c.in_ok-push.ensures.items c.loop-key-test.true
