use Rattle.cc_things.specs.Things.{is_definition}
use Rattle.cc_things.proofs.Counted.{any-found, any-not, positive, not-positive}
use Rattle.cc_things.proofs.facts.is_defined.Goals as goal

pub returns-then-m-gt0 : goal.returns-then-m-gt0
returns-then-m-gt0 c = any-found (is_definition) c.args.t.now.mentions.items c.as_slice-m-items.result.now c.loop-m.m-index c.m-item.result c.as_slice-m-items.ensures.value c.loop-m-test.true c.m-item.is (positive _ c.if-m-gt0.true)

pub loop-m-preserved : goal.loop-m-preserved
loop-m-preserved c = any-not (is_definition) c.args.t.now.mentions.items c.as_slice-m-items.result.now c.loop-m.m-index c.m-item.result c.as_slice-m-items.ensures.value c.loop-m-test.true c.m-item.is c.loop-m.invariant (not-positive _ c.if-m-gt0.false)
