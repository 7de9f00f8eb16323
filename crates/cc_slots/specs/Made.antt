-- A slot as it is made of all accesses of its key, of whether its address is taken, and of its values in the whole run.
use Rattle.std.specs.Prelude.{◌≡◌, Bool, List}
use Rattle.cc_code.specs.Members.{has_coding}
use Rattle.cc_state_points.specs.CcPlaces.declared.abs.Abs.{Abs}
use Rattle.cc_program.specs.declared.program.Program.{Program}
use Rattle.cc_sets.specs.declared.vals.Vals.{Vals}
use Rattle.cc_slots.specs.Counts.{scalar_bytes, scalar_count, slot_name}
use Rattle.cc_slots.specs.Findings.{findings_of}
use Rattle.cc_slots.specs.First.{first_reason}
use Rattle.cc_slots.specs.Judged.{class_of, is_reached_read, is_reached_write, points_of}
use Rattle.cc_slots.specs.Reasons.{AreBits}
use Rattle.cc_slots_accesses.specs.declared.access.Access.{Access}
use Rattle.cc_slots_structures.specs.Copies.{capped}
use Rattle.cc_slots_types.specs.declared.slot.Slot.{Slot}
use Rattle.cc_state_points.specs.CcStateFacts.declared.facts.Key.{Key}

pub record IsMadeSlot (p : Program) (k : Key) (accesses : List Access) (addressed : Bool) (set : Abs Vals) (slot : Slot) : Type 0 where
  pub key : slot.key ≡ k
  pub name : slot.name ≡ slot_name p k
  pub class : slot.class ≡ class_of accesses
  pub values : slot.values ≡ set
  pub count : slot.count ≡ capped (scalar_count p k)
  pub bytes : slot.bytes ≡ scalar_bytes p k
  pub bits : AreBits k set slot.bytes slot.bits
  pub reads : slot.reads ≡ points_of is_reached_read accesses
  pub writes : slot.writes ≡ points_of is_reached_write accesses
  pub reason : slot.reason ≡ first_reason (findings_of p k accesses addressed slot.class slot.count slot.bytes (has_coding set) slot.bits)
