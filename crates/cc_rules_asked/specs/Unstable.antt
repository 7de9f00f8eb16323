-- Tracked cells that handlers which may enter may write, by the numbers of their keys.
use Rattle.std.specs.Prelude.{◌≡◌, ℕ, Bool, true, false, List, ◌++◌, map, length, Option, Some, None, option_and_then, slice_get}
use Rattle.std.specs.List.{filter, flat_map}
use Rattle.cc_rules.specs.CcPlaces.declared.abs.Abs.{Abs}
use Rattle.cc_program.specs.declared.program.Program.{Program}
use Rattle.cc_rules_asked.specs.declared.asked.Asked.{Asked}
use Rattle.cc_rules_asked.specs.declared.asked.Asked.TheVariants as asked
use Rattle.cc_rules.specs.CcRulesFlows.declared.after.Here.{Here}
use Rattle.cc_rules.specs.CcRulesNeeds.Flowing.{numbers}
use Rattle.cc_rules.specs.CcRulesNeeds.declared.needs.Part.TheVariants.{Mark, Values}
use Rattle.cc_rules.specs.CcRulesNeeds.declared.needs.Slot.TheVariants.{CellAt, Apart}
use Rattle.cc_rules.specs.CcStateFacts.declared.facts.Key.TheVariants as key
use Rattle.cc_rules.specs.CcStateFacts.Facts.{levels_of}
use Rattle.cc_rules.specs.CcStateFacts.Levels.{one_may_enter}
use Rattle.cc_rules.specs.CcStateKeys.Keys.{key_number}
use Rattle.cc_rules.specs.CcStateKeys.Tracked.{tracked}

-- the numbers of the keys of the tracked cells of a program
abbrev pub AreCellKeysOf : Program → List (Option ℕ) → Type 0
AreCellKeysOf p keys = keys ≡ map (λ i. key_number p (key.Object i)) (tracked p)

abbrev pub key_at : List (Option ℕ) → ℕ → Option ℕ
key_at keys cell = option_and_then (λ (k : Option ℕ). k) (slice_get keys cell)

-- by the levels at which the function runs, and those of the handlers that may write each key
abbrev pub is_unstable_by : ℕ → List ℕ → Option ℕ → Bool
is_unstable_by running writers None = false
is_unstable_by running writers (Some k) = one_may_enter running (levels_of writers k)

abbrev pub unstable_by : ℕ → List ℕ → List (Option ℕ) → List ℕ
unstable_by running writers keys = filter (λ j. is_unstable_by running writers (key_at keys j)) (numbers 0 (length keys))

module _ {I : Type 0} (number : ℕ) where
  abbrev pub parts_of_cells : List (Abs I) → List (Option ℕ) → List ℕ → List (Asked I)
  parts_of_cells whole keys cells = map (λ j. asked.Part (CellAt number j) (Values (option_and_then (slice_get whole) (key_at keys j)))) cells

  abbrev pub parts_apart : List ℕ → ℕ → List (Asked I)
  parts_apart cells r = map (λ j. asked.Part (Apart number r j) (Mark true)) cells

  abbrev pub parts_unstable : List (Abs I) → List (Option ℕ) → List ℕ → ℕ → List (Asked I)
  parts_unstable whole keys cells registers = parts_of_cells whole keys cells ++ flat_map (parts_apart cells) (numbers 0 registers)

-- at a point, by what facts say
abbrev pub unstable_in : {I : Type 0} → Here I → List (Option ℕ) → List (Asked I)
unstable_in here keys =
    parts_unstable here.number here.facts.now.whole keys (unstable_by (levels_of here.facts.now.levels here.context.id) here.facts.now.write_levels keys) (length here.context.registers.now)
