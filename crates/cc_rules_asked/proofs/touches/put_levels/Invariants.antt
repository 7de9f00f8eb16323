use Rattle.std.proofs.Common.{◌≡◌, ◌++◌, map, take}
use Rattle.cc_rules_asked.specs.declared.asked.Asked.TheVariants as asked
use Rattle.cc_rules_asked.specs.Asks.{level_slot}
use Rattle.cc_rules.specs.CcRulesNeeds.declared.needs.Part.TheVariants.{LevelSet}
use Rattle.cc_rules_asked.proofs.touches.put_levels.Given as goal

abbrev pub invariant-loop-key : goal.invariant-loop-key
invariant-loop-key g l = l.asked.items ≡ l.initial.asked.items ++ map (λ k. asked.Part (level_slot l.writes k) (LevelSet l.levels)) (take l.key-index l.keys)
