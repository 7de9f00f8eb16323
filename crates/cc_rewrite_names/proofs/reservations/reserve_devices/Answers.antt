use Rattle.std.proofs.Common.{[], ◌++◌, take, subst, sym}
use Rattle.std.proofs.lemmas.List.{append-nil}
use Rattle.cc_names.specs.Holds.{Holds}
use Rattle.cc_syntax.specs.Names.{device_names}
use Rattle.cc_lower_numbers.proofs.Reservations.{devices_reserved, devices_end}
use Rattle.cc_rewrite_names.proofs.reservations.reserve_devices.Goals as goal

pub loop-device-init : goal.loop-device-init
loop-device-init c = λ r h. subst (λ l. Holds c.args.taken.now l []) (sym (append-nil r)) h

pub loop-device-preserved : goal.loop-device-preserved
loop-device-preserved c = λ r h.
    let xs = c.args.devices.now in
    let i = c.loop-device.device-index in
    subst (λ l. Holds c.reserve_device.new.taken l []) (devices_reserved xs r i c.device-item.result c.loop-device-test.true c.device-item.is)
    (c.in_ok-reserve_device.ensures (r ++ device_names (take i xs)) (c.loop-device.invariant r h))

pub returns : goal.returns
returns c = λ r h. subst (λ l. Holds c.loop-device.taken l []) (devices_end c.args.devices.now r c.loop-device.device-index c.loop-device-test.false) (c.loop-device.invariant r h)
