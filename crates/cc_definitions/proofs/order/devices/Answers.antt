use Rattle.std.proofs.Common.{◌+◌, ap}
use Rattle.cc_definitions.proofs.Numbered.{numbers_more, numbers_end}
use Rattle.cc_things.specs.Things.{is_device}
use Rattle.cc_definitions.proofs.order.devices.Goals as goal

pub loop-t-preserved : goal.loop-t-preserved
loop-t-preserved c = record {
  at = ap (λ n. n + 1) c.loop-t.invariant.at;
  done = numbers_more is_device c.args.things.now c.loop-t.t-index c.loop-t.number c.t-item.result c.is_device.result c.loop-t.devices.items c.put.new.numbers.items c.loop-t-test.true c.t-item.is c.loop-t.invariant.at c.is_device.ensures c.loop-t.invariant.done c.in_ok-put.ensures;
}

pub returns : goal.returns
returns c = numbers_end is_device c.args.things.now c.loop-t.t-index c.loop-t.devices.items c.loop-t.auto.t-index-end c.loop-t-test.false c.loop-t.invariant.done
