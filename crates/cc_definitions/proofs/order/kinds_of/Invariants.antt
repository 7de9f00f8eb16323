use Rattle.std.proofs.Common.{◌≡◌, map, take}
use Rattle.std.specs.Prelude.{filter, not}
use Rattle.cc_definitions.specs.Definitions.{is_function, thing_at}
use Rattle.cc_things.specs.View.{thing_view}
use Rattle.cc_definitions.proofs.order.kinds_of.Given as goal

abbrev pub invariant-loop-number : goal.invariant-loop-number
invariant-loop-number l = record {
  functions : l.functions.items ≡ filter (λ k. is_function (thing_at (map thing_view l.things) k)) (take l.number-index l.defined);
  objects : l.objects.items ≡ filter (λ k. not (is_function (thing_at (map thing_view l.things) k))) (take l.number-index l.defined);
}
