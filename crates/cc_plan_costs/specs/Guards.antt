-- Which accesses of a slot are guarded, before words are made: those of a word that holds one more slot, which is touched as this one
-- is; of a packed array, those of its elements. The word has 16 bits where the slot has more than 8, and else 8.
use Rattle.std.specs.Prelude.{ℕ, Bool, true, false, not, ◌&&◌, ◌||◌, nat_lt, bit_or, List, fold, if◌then◌else◌}
use Rattle.cc_rules_flows.specs.CcFlow.declared.types.Point.{Point}
use Rattle.cc_plan_legal.specs.Short.{element_bits}
use Rattle.cc_program.specs.declared.program.Program.{Program}
use Rattle.cc_slots_accesses.specs.Arrays.{is_array}
use Rattle.cc_slots_accesses.specs.Known.{may_be_on}
use Rattle.cc_slots_types.specs.declared.class.Class.{Class}
use Rattle.cc_slots_types.specs.declared.class.Class.TheVariants.{Lone, Read, Written}
use Rattle.cc_slots_types.specs.declared.slot.Slot.{Slot}
use Rattle.cc_rules_flows.specs.CcStateFacts.declared.facts.Facts.{Facts}
use Rattle.cc_rules_flows.specs.CcStateFacts.Facts.{fact_at, levels_of}
use Rattle.cc_rules_flows.specs.CcStateFacts.Levels.{one_may_enter}
use Rattle.cc_plan_costs.specs.Counts.{func_of}

-- handlers read or write the slot; they may write it
abbrev pub is_shared : Class → Bool
is_shared Lone = false
is_shared Read = true
is_shared Written = true

abbrev pub is_written : Class → Bool
is_written Lone = false
is_written Read = false
is_written Written = true

-- the bytes of a word, or of an element, that has a code of so many bits
abbrev pub word_bytes : ℕ → ℕ
word_bytes bits = if nat_lt 8 bits then 2 else 1

-- whether a write has to keep other bits: it does not where an element has whole bytes
abbrev pub keeps_bits : Bool → ℕ → Bool
keeps_bits is_array bits = not is_array || nat_lt (element_bits bits) 8

module _ {I : Type 0} (points : List Point) (facts : Facts I) where
  -- the levels at which a point's function may run, and those of the innermost handlers from which it may be reached
  abbrev pub running_at : ℕ → ℕ
  running_at n = levels_of facts.levels (func_of points n)

  abbrev pub from_at : ℕ → ℕ
  from_at n = levels_of facts.from (func_of points n)

  abbrev pub with_from : ℕ → ℕ → ℕ
  with_from levels n = bit_or levels (from_at n)

  -- the levels of the handlers from which one of some points is reached
  abbrev pub levels_to : List ℕ → ℕ
  levels_to these = fold with_from 0 these

  -- whether a handler of one of some levels may enter at a point
  abbrev pub is_entered : ℕ → ℕ → Bool
  is_entered levels n = may_be_on (fact_at facts n) && one_may_enter (running_at n) levels

  module _ (p : Program) (slot : Slot) where
    -- an access to a word that an interrupt divides is guarded against handlers that access the slot
    abbrev pub against_access : ℕ
    against_access = if nat_lt p.target.atomic_bytes (word_bytes slot.bits) && is_shared slot.class then bit_or (levels_to slot.reads) (levels_to slot.writes) else 0

    -- and a read, change and write against handlers that write it
    abbrev pub against_change : ℕ
    against_change = if keeps_bits (is_array p slot.key) slot.bits && is_written slot.class then levels_to slot.writes else 0

    -- the levels of the handlers against which a read is guarded, where they may enter, and those for a write
    abbrev pub against_read : ℕ
    against_read = against_access

    abbrev pub against_write : ℕ
    against_write = bit_or against_access against_change
