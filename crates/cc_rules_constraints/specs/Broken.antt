-- The first constraint that facts break, as the code has it.
use Rattle.std.specs.Prelude.{◌≡◌, ℕ, ◌∷◌, ◌++◌, Option, Some, None, slice_get}
use Rattle.cc_program.specs.declared.program.Program.{Program}
use Rattle.cc_rules_asked.specs.CcRules.Constraints.{Constraint, constraints}
use Rattle.cc_rules_asked.specs.CcRules.Rules.{IsAsked, IsMet}
use Rattle.cc_rules_constraints.specs.declared.broken.Broken.{Broken}
use Rattle.cc_rules_numbered.specs.Numbered.{constraint_view}
use Rattle.cc_rules_asked.specs.CcRulesNeeds.declared.needs.Part.{Part}
use Rattle.cc_rules_asked.specs.CcRulesNeeds.declared.needs.Slot.{Slot}
use Rattle.cc_rules_asked.specs.CcRulesNeeds.Needs.{Needs, get, IsBelowPart, HasAll}
use Rattle.cc_rules_asked.specs.CcStateFacts.declared.facts.Facts.{Facts}
use Rattle.cc_rules_asked.specs.CcStateOperators.Domains.{Domain}

abbrev pub broken_view : {I : Type 0} → Broken I → Constraint × Slot × Part I
broken_view b = (constraint_view b.constraint, b.slot, b.part)

module _ {I : Type 0} (d : Domain I) (p : Program) (facts : Facts I) where
  -- facts lack a part that the constraint asks for, and have those in front of it
  pub record Lacks (c : Constraint) (slot : Slot) (part : Part I) : Type 0 where
    pub front : Needs I
    pub back : Needs I
    pub asks : IsAsked d p facts c (front ++ (slot, part) ∷ back)
    pub has : HasAll d.below front facts
    pub lacks : IsBelowPart d.below part (get slot facts) → ⊥

  -- none where they meet it
  abbrev pub IsBrokenBy : Constraint → Option (Broken I) → Type 0
  IsBrokenBy c None = IsMet d p c facts
  IsBrokenBy c (Some b) = (constraint_view b.constraint ≡ c) × Lacks c b.slot b.part

  abbrev pub IsBrokenAt : ℕ → Option (Broken I) → Type 0
  IsBrokenAt number b = (c : Constraint) → slice_get (constraints p) number ≡ Some c → IsBrokenBy c b
