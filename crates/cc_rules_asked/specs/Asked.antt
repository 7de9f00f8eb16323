-- What is asked of facts, as the code has it: parts of slots, and points as a whole. Each stands for needs.
use Rattle.std.specs.Prelude.{◌≡◌, ℕ, List, [], ◌∷◌, length}
use Rattle.std.specs.List.{flat_map}
use Rattle.cc_program.specs.declared.program.Program.{Program}
use Rattle.cc_rules_asked.specs.declared.asked.Asked.{Asked}
use Rattle.cc_rules_asked.specs.declared.asked.Asked.TheVariants as asked
use Rattle.cc_rules.specs.CcRulesNeeds.Flowing.{of_fact, needs_at}
use Rattle.cc_rules.specs.CcRulesNeeds.Needs.{Needs}
use Rattle.cc_rules.specs.CcStateKeys.Tracked.{tracked}

module _ {I : Type 0} (p : Program) where
  -- of a point all that it needs of what flows there
  abbrev pub needs_of : Asked I → Needs I
  needs_of (asked.Part slot part) = (slot, part) ∷ []
  needs_of (asked.Point number registers flow) = needs_at number registers (length (tracked p)) (of_fact flow)

  abbrev pub all_needs : List (Asked I) → Needs I
  all_needs list = flat_map needs_of list

  -- these are asked, in this order
  abbrev pub AreAsked : List (Asked I) → Needs I → Type 0
  AreAsked list ns = ns ≡ all_needs list
