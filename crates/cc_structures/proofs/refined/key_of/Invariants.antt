use Rattle.std.proofs.Common.{◌≡◌, ◌∷◌, take, map}
use Rattle.cc_structures.specs.Structures.{number_at}
use Rattle.cc_structures.proofs.refined.key_of.Given as goal

abbrev pub invariant-loop-part : goal.invariant-loop-part
invariant-loop-part l = l.key.items ≡ number_at l.numbers l.text l.node.known.position ∷ map (number_at l.numbers l.text) (take l.part-index l.node.parts.items)
