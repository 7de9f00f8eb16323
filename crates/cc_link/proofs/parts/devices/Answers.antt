use Rattle.std.proofs.Common.{◌∙◌, [], get_or, map, ap}
use Rattle.std.proofs.lemmas.List.{get_or_default}
use Rattle.std.specs.Prelude.{filter_map}
use Rattle.cc_link.proofs.Loops.{made_more, made_end}
use Rattle.cc_link.specs.Linked.{device_at}
use Rattle.cc_linked_names.specs.Given.{given_name}
use Rattle.cc_things.specs.View.{thing_view}
use Rattle.cc_link.proofs.parts.devices.Goals as goal

pub loop-number-preserved : goal.loop-number-preserved
loop-number-preserved c =
    let i = c.loop-number.number-index in
    made_more (device_at (map thing_view c.args.things.now) (given_name c.args.given.now)) c.args.numbers.now i (get_or c.args.numbers.now i 0) c.in_ok-device.device c.loop-number.devices.items c.put.new.made.items c.loop-number-test.true (get_or_default c.args.numbers.now i 0 (get_or c.args.numbers.now i 0) c.loop-number-test.true) c.in_ok-device.ensures c.loop-number.invariant c.in_ok-put.ensures

pub returns : goal.returns
returns c = c.of.ensures ∙ made_end (device_at (map thing_view c.args.things.now) (given_name c.args.given.now)) c.args.numbers.now c.loop-number.number-index c.loop-number.devices.items c.loop-number-test.false c.loop-number.invariant
