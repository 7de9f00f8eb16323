use Rattle.std.proofs.Common.{◌≡◌, Some, map, take}
use Rattle.cc_rules_asked.specs.declared.asked.Asked.TheVariants as asked
use Rattle.cc_rules.specs.CcRulesNeeds.declared.needs.Part.TheVariants.{Values}
use Rattle.cc_rules.specs.CcRulesNeeds.declared.needs.Slot.TheVariants.{Whole}
use Rattle.cc_rules_asked.proofs.writes.asked_of_keys.Given as goal

abbrev pub invariant-loop-key : goal.invariant-loop-key
invariant-loop-key g l = l.asked.items ≡ map (λ k. asked.Part (Whole k) (Values (Some l.set))) (take l.key-index l.keys)
