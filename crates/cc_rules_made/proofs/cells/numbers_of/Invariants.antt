use Rattle.std.proofs.Common.{◌≡◌, map, take}
use Rattle.cc_rules_asked.specs.CcStateFacts.declared.facts.Key.TheVariants as key
use Rattle.cc_rules_asked.specs.CcStateKeys.Keys.{key_number}
use Rattle.cc_rules_made.proofs.cells.numbers_of.Given as goal

abbrev pub invariant-loop-object : goal.invariant-loop-object
invariant-loop-object l = l.numbers.items ≡ map (λ i. key_number l.p (key.Object i)) (take l.object-index l.objects)
