use Rattle.cc_things.proofs.Counted.{any-found, any-not}
use Rattle.cc_things.proofs.facts.is_used.Goals as goal

pub returns-then-m : goal.returns-then-m
returns-then-m c = any-found (λ m. m.used) c.args.t.now.mentions.items c.as_slice-m-items.result.now c.loop-m.m-index c.m-item.result c.as_slice-m-items.ensures.value c.loop-m-test.true c.m-item.is (c.if-m.true)

pub loop-m-preserved : goal.loop-m-preserved
loop-m-preserved c = any-not (λ m. m.used) c.args.t.now.mentions.items c.as_slice-m-items.result.now c.loop-m.m-index c.m-item.result c.as_slice-m-items.ensures.value c.loop-m-test.true c.m-item.is c.loop-m.invariant (c.if-m.false)
