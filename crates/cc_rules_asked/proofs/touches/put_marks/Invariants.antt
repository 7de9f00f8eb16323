use Rattle.std.proofs.Common.{◌≡◌, ◌++◌, true, map, take}
use Rattle.cc_rules_asked.specs.declared.asked.Asked.TheVariants as asked
use Rattle.cc_rules_asked.specs.Asks.{mark_slot}
use Rattle.cc_rules.specs.CcRulesNeeds.declared.needs.Part.TheVariants.{Mark}
use Rattle.cc_rules_asked.proofs.touches.put_marks.Given as goal

abbrev pub invariant-loop-key : goal.invariant-loop-key
invariant-loop-key g l = l.asked.items ≡ l.initial.asked.items ++ map (λ k. asked.Part (mark_slot l.writes k) (Mark true)) (take l.key-index l.keys)
