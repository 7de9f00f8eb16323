use Rattle.std.proofs.Common.{◌≡◌, map, take}
use Rattle.cc_objects.specs.Categories.{category_of, entity_of}
use Rattle.cc_objects.proofs.setting.entities.Given as goal

abbrev pub invariant-loop-i : goal.invariant-loop-i
invariant-loop-i l = l.entities.items ≡ map (λ i. entity_of (category_of l.place l.storage l.function i.node.declr.node)) (take l.i-index l.inits)
