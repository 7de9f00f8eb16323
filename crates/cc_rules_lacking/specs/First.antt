-- The first of some needs that facts lack.
use Rattle.std.specs.Prelude.{◌≡◌, ◌∷◌, ◌++◌, Option, Some, None}
use Rattle.cc_rules_asked.specs.CcRulesNeeds.declared.needs.Part.{Part}
use Rattle.cc_rules_asked.specs.CcRulesNeeds.declared.needs.Slot.{Slot}
use Rattle.cc_rules_asked.specs.CcRulesNeeds.Needs.{Needs, Has, HasAll}
use Rattle.cc_rules_asked.specs.CcStateFacts.declared.facts.Facts.{Facts}

module _ {I : Type 0} (below : I → I → Type 0) where
  -- behind those that they have
  pub record IsFirst (needs : Needs I) (facts : Facts I) (need : Slot × Part I) : Type 0 where
    pub front : Needs I
    pub back : Needs I
    pub is : needs ≡ front ++ need ∷ back
    pub has : HasAll below front facts
    pub lacks : Has below facts need → ⊥

  -- none where they have all
  abbrev pub LacksFirst : Needs I → Facts I → Option (Slot × Part I) → Type 0
  LacksFirst needs facts None = HasAll below needs facts
  LacksFirst needs facts (Some need) = IsFirst needs facts need
