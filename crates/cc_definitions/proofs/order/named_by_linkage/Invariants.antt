use Rattle.std.proofs.Common.{◌≡◌, map}
use Rattle.std.specs.Prelude.{filter}
use Rattle.cc_definitions.specs.Definitions.{is_named_by, thing_at, numbers_below}
use Rattle.cc_things.specs.View.{thing_view}
use Rattle.cc_definitions.proofs.order.named_by_linkage.Given as goal

abbrev pub invariant-loop-t : goal.invariant-loop-t
invariant-loop-t l = record {
  at : l.number ≡ l.t-index;
  done : l.named.items ≡ filter (λ k. is_named_by l.external (thing_at (map thing_view l.things) k)) (numbers_below l.t-index);
}
