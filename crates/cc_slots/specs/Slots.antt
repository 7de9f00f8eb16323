-- What is known of the slots of a program, by facts about it.
use Rattle.std.specs.Prelude.{◌≡◌, true, false, List, Some, All, map}
use Rattle.cc_program.specs.declared.program.Program.{Program}
use Rattle.cc_sets.specs.declared.vals.Vals.{Vals}
use Rattle.cc_slots.specs.Counts.{scalar_bytes, scalar_count, slot_name}
use Rattle.cc_slots.specs.Keys.{slot_keys}
use Rattle.cc_slots.specs.Reasons.{AreBits, IsReason}
use Rattle.cc_slots_accesses.specs.Accesses.{AreAccesses, IsClass}
use Rattle.cc_slots_types.specs.declared.slot.Slot.{Slot}
use Rattle.cc_state_points.specs.CcStateFacts.declared.facts.Facts.{Facts}
use Rattle.cc_state_points.specs.CcStateFacts.declared.facts.Key.{Key}
use Rattle.cc_state_points.specs.CcStateOperators.Domains.{Domain}
use Rattle.cc_state_points.specs.CcStateReads.Reads.{whole_of}

module _ (p : Program) (d : Domain Vals) (facts : Facts Vals) where
  pub record IsSlotOf (slot : Slot) : Type 0 where
    pub name : slot.name ≡ slot_name p slot.key
    pub class : IsClass p d facts slot.key slot.class
    pub values : whole_of p facts slot.key ≡ Some slot.values
    pub count : slot.count ≡ scalar_count p slot.key
    pub bytes : slot.bytes ≡ scalar_bytes p slot.key
    pub bits : AreBits slot.key slot.values slot.bytes slot.bits
    pub reads : AreAccesses p d facts false slot.key slot.reads
    pub writes : AreAccesses p d facts true slot.key slot.writes
    pub reason : IsReason p d facts slot.key slot.class slot.values slot.count slot.bytes slot.bits slot.reason

  -- those of some keys, in their order
  pub record AreSlotsOf (these : List Key) (slots : List Slot) : Type 0 where
    pub keys : map (λ (s : Slot). s.key) slots ≡ these
    pub each : All IsSlotOf slots

  -- all slots
  abbrev pub AreSlots : List Slot → Type 0
  AreSlots slots = AreSlotsOf (slot_keys p) slots
