-- The first constraint that facts break, as reports have it.
use Rattle.std.specs.Prelude.{◌≡◌, ℤ, Option, Some, None}
use Rattle.cc_program.specs.declared.program.Program.{Program}
use Rattle.cc_proof.specs.declared.broken.Broken.{Broken}
use Rattle.cc_rules_grow.specs.CcRules.Broken.{IsFirstBroken}
use Rattle.cc_rules_grow.specs.CcRules.Constraints.{Constraint, rule_number}
use Rattle.cc_rules_grow.specs.CcRules.Rules.{IsSolution}
use Rattle.cc_rules_grow.specs.CcRulesNeeds.declared.needs.Part.{Part}
use Rattle.cc_rules_grow.specs.CcRulesNeeds.declared.needs.Slot.{Slot}
use Rattle.cc_rules_texts.specs.Texts.{had_text, part_text}
use Rattle.cc_rules_grow.specs.CcStateFacts.declared.facts.Facts.{Facts}
use Rattle.cc_rules_grow.specs.CcStateOperators.Domains.{Domain}

-- over a domain, and the bounds of its sets
module _ {I : Type 0} (d : Domain I) (ends : I → Option (ℤ × ℤ)) (p : Program) (facts : Facts I) where
  -- the number of its rule, and its point; as texts, what facts have in the first slot where they have too little, and what it needs there
  pub record IsTold (c : Constraint) (slot : Slot) (part : Part I) (broken : Broken) : Type 0 where
    pub rule : broken.rule ≡ rule_number c.rule
    pub point : broken.point ≡ c.point
    pub have : broken.have.items ≡ had_text p d.members ends facts slot
    pub need : broken.need.items ≡ part_text p d.members ends slot part

  pub record IsFirst (broken : Broken) : Type 0 where
    pub constraint : Constraint
    pub slot : Slot
    pub part : Part I
    pub first : IsFirstBroken d p facts constraint slot part
    pub told : IsTold constraint slot part broken

  -- none exactly where they are a solution
  abbrev pub IsFirstOrNone : Option Broken → Type 0
  IsFirstOrNone None = IsSolution d p facts
  IsFirstOrNone (Some broken) = IsFirst broken
