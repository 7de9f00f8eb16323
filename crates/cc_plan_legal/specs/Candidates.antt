-- Slots as plans see them.
use Rattle.std.specs.Prelude.{ℕ, nat_eq, Bool, List, slice_get, if◌then◌else◌}
use Rattle.std.specs.Option.{option_map_or}
use Rattle.cc_plan_legal.specs.declared.candidate.Candidate.{Candidate}
use Rattle.cc_plan_legal.specs.declared.candidate.Form.{Form}
use Rattle.cc_plan_legal.specs.declared.candidate.Form.TheVariants.{Field, Const, Array}
use Rattle.cc_slots_types.specs.declared.slot.Slot.{Slot}
use Rattle.cc_slots_types.specs.Slots.{group_of}

abbrev pub form_number : Form → ℕ
form_number Field = 0
form_number Const = 1
form_number Array = 2

-- a code of no bits is that of a constant
abbrev pub form_by : ℕ → Bool → Form
form_by bits is_array = if nat_eq bits 0 then Const else (if is_array then Array else Field)

abbrev pub candidate_of : Slot → Bool → Candidate
candidate_of slot is_array = record {
  group = group_of slot.key slot.class;
  form = form_by slot.bits is_array;
  bits = slot.bits;
  bytes = slot.bytes;
  count = slot.count;
  reason = slot.reason;
}

-- the bits of a slot's code, and the bytes of its scalar, by its number
abbrev pub bits_of : List Candidate → ℕ → ℕ
bits_of slots slot = option_map_or (λ (c : Candidate). c.bits) (slice_get slots slot) 0

abbrev pub bytes_of : List Candidate → ℕ → ℕ
bytes_of slots slot = option_map_or (λ (c : Candidate). c.bytes) (slice_get slots slot) 0
