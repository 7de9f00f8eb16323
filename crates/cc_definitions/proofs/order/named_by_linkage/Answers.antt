use Rattle.std.proofs.Common.{◌+◌, ap}
use Rattle.cc_definitions.proofs.Numbered.{numbers_more, numbers_end}
use Rattle.cc_definitions.specs.Definitions.{is_named_by}
use Rattle.cc_definitions.proofs.order.named_by_linkage.Goals as goal

pub loop-t-preserved : goal.loop-t-preserved
loop-t-preserved c = record {
  at = ap (λ n. n + 1) c.loop-t.invariant.at;
  done = numbers_more (is_named_by c.args.external) c.args.things.now c.loop-t.t-index c.loop-t.number c.t-item.result c.is_named_by_linkage.result c.loop-t.named.items c.put.new.numbers.items c.loop-t-test.true c.t-item.is c.loop-t.invariant.at c.is_named_by_linkage.ensures c.loop-t.invariant.done c.in_ok-put.ensures;
}

pub returns : goal.returns
returns c = numbers_end (is_named_by c.args.external) c.args.things.now c.loop-t.t-index c.loop-t.named.items c.loop-t.auto.t-index-end c.loop-t-test.false c.loop-t.invariant.done
