-- The first constraint that facts do not meet, and there the first slot that has too little.
use Rattle.std.specs.Prelude.{◌≡◌, ℕ, List, ◌∷◌, ◌++◌, Option, Some, None}
use Rattle.std.specs.List.{Contains}
use Rattle.cc_program.specs.declared.program.Program.{Program}
use Rattle.cc_rules.specs.Constraints.{Constraint, constraints}
use Rattle.cc_rules.specs.Rules.{IsAsked, IsMet, IsSolution}
use Rattle.cc_rules_flows.specs.CcRulesNeeds.declared.needs.Part.{Part}
use Rattle.cc_rules_flows.specs.CcRulesNeeds.declared.needs.Slot.{Slot}
use Rattle.cc_rules_flows.specs.CcRulesNeeds.Needs.{Needs, get, IsBelowPart, HasAll}
use Rattle.cc_rules_flows.specs.CcStateFacts.declared.facts.Facts.{Facts}
use Rattle.cc_rules_flows.specs.CcStateOperators.Domains.{Domain}

module _ {I : Type 0} (d : Domain I) (p : Program) (facts : Facts I) where
  pub record IsFirstBroken (c : Constraint) (slot : Slot) (need : Part I) : Type 0 where
    pub before : List Constraint
    pub after : List Constraint
    pub is : constraints p ≡ before ++ c ∷ after
    pub met : (b : Constraint) → Contains before b → IsMet d p b facts
    pub front : Needs I
    pub back : Needs I
    pub asks : IsAsked d p facts c (front ++ (slot, need) ∷ back)
    pub has : HasAll d.below front facts
    pub lacks : IsBelowPart d.below need (get slot facts) → ⊥

  -- none exactly where they are a solution
  abbrev pub FirstBroken : Option (Constraint × Slot × Part I) → Type 0
  FirstBroken None = IsSolution d p facts
  FirstBroken (Some b) = IsFirstBroken b.0 b.1 b.2
