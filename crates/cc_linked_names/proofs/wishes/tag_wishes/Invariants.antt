use Rattle.std.proofs.Common.{◌≡◌, map, take}
use Rattle.cc_linked_names.specs.Given.{tag_wish}
use Rattle.cc_names.specs.View.{wishes_of}
use Rattle.cc_structures.specs.View.{known_of}
use Rattle.cc_linked_names.proofs.wishes.tag_wishes.Given as goal

abbrev pub invariant-loop-known : goal.invariant-loop-known
invariant-loop-known l = wishes_of l.wishes.items ≡ map (λ k. tag_wish (known_of k)) (take l.known-index l.firsts)
