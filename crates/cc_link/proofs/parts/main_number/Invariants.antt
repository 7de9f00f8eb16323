use Rattle.std.proofs.Common.{◌≡◌, false, map, take}
use Rattle.std.specs.List.{list_any}
use Rattle.cc_definitions.specs.Definitions.{thing_at}
use Rattle.cc_definitions.specs.Handlers.{is_named_main}
use Rattle.cc_things.specs.View.{thing_view}
use Rattle.cc_link.proofs.parts.main_number.Given as goal

abbrev pub invariant-loop-number : goal.invariant-loop-number
invariant-loop-number l = record {
  at : l.position ≡ l.number-index;
  before : list_any (λ k. is_named_main (thing_at (map thing_view l.things) k)) (take l.number-index l.functions) ≡ false;
}
