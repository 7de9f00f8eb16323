use Rattle.std.proofs.Common.{◌+◌, ap}
use Rattle.cc_lower_numbers.specs.Numbered.{named_from}
use Rattle.cc_lower_numbers.proofs.Counts.{named_more, named_all}
use Rattle.cc_lower_numbers.proofs.devices.named.Goals as goal

pub loop-device-preserved : goal.loop-device-preserved
loop-device-preserved c = record {
  at = ap (λ n. n + 1) c.loop-device.invariant.at;
  done =
      named_more c.loop-device.named.items c.put_named.new.out.items c.args.devices.now c.loop-device.device-index c.loop-device.position c.device-item.result (named_from 0 c.args.devices.now)
      c.loop-device-test.true c.device-item.is c.loop-device.invariant.at c.in_ok-put_named.ensures c.loop-device.invariant.done;
}

pub returns : goal.returns
returns c = named_all c.loop-device.named.items c.args.devices.now c.loop-device.device-index (named_from 0 c.args.devices.now) c.loop-device-test.false c.loop-device.invariant.done
