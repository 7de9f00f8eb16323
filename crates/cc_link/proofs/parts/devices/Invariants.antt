use Rattle.std.proofs.Common.{◌≡◌, map, take}
use Rattle.std.specs.Prelude.{filter_map}
use Rattle.cc_linked_names.specs.Given.{given_name}
use Rattle.cc_things.specs.View.{thing_view}
use Rattle.cc_link.specs.Linked.{device_at}
use Rattle.cc_link.proofs.parts.devices.Given as goal

abbrev pub invariant-loop-number : goal.invariant-loop-number
invariant-loop-number l = l.devices.items ≡ filter_map (device_at (map thing_view l.things) (given_name l.given)) (take l.number-index l.numbers)
