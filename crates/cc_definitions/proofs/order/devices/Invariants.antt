use Rattle.std.proofs.Common.{◌≡◌, map}
use Rattle.std.specs.Prelude.{filter}
use Rattle.cc_things.specs.Things.{is_device}
use Rattle.cc_definitions.specs.Definitions.{thing_at, numbers_below}
use Rattle.cc_things.specs.View.{thing_view}
use Rattle.cc_definitions.proofs.order.devices.Given as goal

abbrev pub invariant-loop-t : goal.invariant-loop-t
invariant-loop-t l = record {
  at : l.number ≡ l.t-index;
  done : l.devices.items ≡ filter (λ k. is_device (thing_at (map thing_view l.things) k)) (numbers_below l.t-index);
}
