-- How what facts have, and what a constraint asks of them, is written in reports.
use Rattle.std.specs.Prelude.{ℕ, ℤ, Bool, true, false, List, [], ◌++◌, Option, Some, None, option_and_then, slice_get, codes}
use Rattle.std.specs.Fmt.{decimal}
use Rattle.std.specs.Option.{option_map_or}
use Rattle.cc_rules_asked.specs.CcFlow.declared.types.Point.{Point}
use Rattle.cc_rules_asked.specs.CcFlow.Points.{flow_of}
use Rattle.cc_program.specs.declared.func.Func.{Func}
use Rattle.cc_program.specs.declared.program.Program.{Program}
use Rattle.cc_rules_asked.specs.CcRulesNeeds.declared.needs.Part.{Part}
use Rattle.cc_rules_asked.specs.CcRulesNeeds.declared.needs.Part.TheVariants.{Mark, LevelSet, Flags, Values}
use Rattle.cc_rules_asked.specs.CcRulesNeeds.declared.needs.Slot.{Slot}
use Rattle.cc_rules_asked.specs.CcRulesNeeds.declared.needs.Slot.TheVariants.{HandlerReads, HandlerWrites, ByMain, ByHandler, Apart}
use Rattle.cc_rules_asked.specs.CcRulesNeeds.Needs.{get}
use Rattle.cc_rules_asked.specs.CcStateFacts.declared.facts.Facts.{Facts}
use Rattle.cc_rules_asked.specs.CcStateKeys.Tracked.{registers, tracked}
use Rattle.cc_state_texts.specs.Texts.{Named, name_of, object_at, values_text}

-- how the flag may be
abbrev pub flags_text : Bool → Bool → List ℕ
flags_text false false = []
flags_text true false = codes "off"
flags_text false true = codes "on"
flags_text true true = codes "both"

-- by whom a function is reached, and how the code of handlers accesses a key
abbrev pub mark_text : Slot → List ℕ
mark_text (ByMain g) = codes "main"
mark_text (ByHandler g) = codes "handler"
mark_text (HandlerReads k) = codes "read"
mark_text (HandlerWrites k) = codes "write"
mark_text _ = []

-- a register by its position in a function
abbrev pub register_in : ℕ → Func → Option Named
register_in r f = option_and_then (slice_get f.locals) (slice_get (registers f) r)

module _ (p : Program) where
  -- a register by its position in the function of a point, and a tracked cell by its position
  abbrev pub register_of : ℕ → ℕ → Option Named
  register_of r id = option_and_then (register_in r) (slice_get p.funcs id)

  abbrev pub register_text : ℕ → ℕ → List ℕ
  register_text n r = option_map_or (λ (point : Point). name_of (register_of r point.func)) (slice_get (flow_of p).points n) []

  abbrev pub tracked_text : ℕ → List ℕ
  tracked_text j = option_map_or (λ i. name_of (object_at p i)) (slice_get (tracked p) j) []

  abbrev pub pair_text : ℕ → ℕ → ℕ → List ℕ
  pair_text n r j = register_text n r ++ codes " " ++ tracked_text j

  module _ {I : Type 0} (members : I → Option (List ℤ)) (ends : I → Option (ℤ × ℤ)) where
    -- nothing is written of what is empty; of a register and a cell that are not apart, both names
    abbrev pub part_text : Slot → Part I → List ℕ
    part_text (Apart n r j) (Mark false) = pair_text n r j
    part_text (Apart n r j) (Mark true) = []
    part_text slot (Mark false) = []
    part_text slot (Mark true) = mark_text slot
    part_text slot (LevelSet x) = decimal x
    part_text slot (Flags off on) = flags_text off on
    part_text slot (Values None) = []
    part_text slot (Values (Some y)) = values_text members ends p y

    -- of what facts have in a slot
    abbrev pub had_text : Facts I → Slot → List ℕ
    had_text facts slot = part_text slot (get slot facts)
