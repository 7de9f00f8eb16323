use Rattle.std.proofs.Common.{◌≡◌, map, take}
use Rattle.cc_definitions.specs.Definitions.{thing_at}
use Rattle.cc_linked_names.specs.Given.{thing_wish}
use Rattle.cc_names.specs.View.{wishes_of}
use Rattle.cc_things.specs.View.{thing_view}
use Rattle.cc_linked_names.proofs.wishes.thing_wishes.Given as goal

abbrev pub invariant-loop-number : goal.invariant-loop-number
invariant-loop-number l = wishes_of l.wishes.items ≡ map (λ k. thing_wish (thing_at (map thing_view l.things) k)) (take l.number-index l.named)
