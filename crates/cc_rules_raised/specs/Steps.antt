-- Facts of a program's shape that are raised by some needs: they lie between the old ones and each facts above these that have what is needed.
use Rattle.std.specs.Prelude.{All, length}
use Rattle.cc_program.specs.declared.program.Program.{Program}
use Rattle.cc_rules_asked.specs.declared.asked.Asked.{Asked}
use Rattle.cc_rules_asked.specs.declared.asked.Asked.TheVariants as asked
use Rattle.cc_rules_asked.specs.CcRulesNeeds.declared.needs.Part.{Part}
use Rattle.cc_rules_asked.specs.CcRulesNeeds.declared.needs.Slot.{Slot}
use Rattle.cc_rules_asked.specs.CcRulesNeeds.Flowing.{of_fact, needs_at}
use Rattle.cc_rules_asked.specs.CcRulesNeeds.Needs.{Needs, HasAll, IsBelow}
use Rattle.cc_rules_shaped.specs.Shaped.{Fits, AllowsLevels}
use Rattle.cc_rules_grow.specs.CcState.Shape.{HaveShape}
use Rattle.cc_rules_asked.specs.CcStateFacts.declared.facts.Facts.{Facts}
use Rattle.cc_rules_asked.specs.CcStateKeys.Tracked.{tracked}
use Rattle.cc_rules_asked.specs.CcStateOperators.Domains.{Domain}

module _ {I : Type 0} (d : Domain I) (p : Program) where
  pub record IsStep (ns : Needs I) (f g : Facts I) : Type 0 where
    pub shape : HaveShape d p g
    pub above : IsBelow d.below f g
    pub least : (h : Facts I) → HaveShape d p h → IsBelow d.below f h → HasAll d.below ns h → IsBelow d.below g h

  -- a slot fits a part, and its levels are allowed to the facts
  pub record IsFit (slot : Slot) (part : Part I) (f : Facts I) : Type 0 where
    pub fits : Fits d p slot part
    pub allowed : AllowsLevels d p slot part f

  -- all that a point needs of what flows there fits
  abbrev pub AllFit : Needs I → Type 0
  AllFit ns = All (λ (need : Slot × Part I). Fits d p need.0 need.1) ns

  abbrev pub IsFitFor : Facts I → Asked I → Type 0
  IsFitFor f (asked.Part slot part) = IsFit slot part f
  IsFitFor f (asked.Point number registers flow) = AllFit (needs_at number registers (length (tracked p)) (of_fact flow))
