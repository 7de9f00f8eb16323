-- Slots whose codes are shorter than their scalars.
use Rattle.std.specs.Prelude.{◌≡◌, ◌≤◌, ◌<◌, ◌+◌, ◌*◌, ◌/◌, nat_le, ℕ, List, None, All, slice_get, if◌then◌else◌}
use Rattle.std.specs.Option.{option_map_or}
use Rattle.cc_plan_legal.specs.declared.candidate.Candidate.{Candidate}
use Rattle.cc_plan_legal.specs.declared.candidate.Form.TheVariants.{Field, Array}

-- the bits that an element of a packed array takes: those of its code, rounded up to 0, 1, 2, 4, 8 or 16
abbrev pub element_bits : ℕ → ℕ
element_bits bits = if nat_le bits 2 then bits else (if nat_le bits 4 then 4 else (if nat_le bits 8 then 8 else 16))

-- the bytes of packed elements; each takes 2 bytes, or lies within one
abbrev pub packed_bytes : ℕ → ℕ → ℕ
packed_bytes bits count = (count * element_bits bits + 7) / 8

-- the code of a slot is shorter than its scalar; a field has some bits, and a packed array fewer bytes
pub record IsShort (c : Candidate) : Type 0 where
  pub shorter : c.bits < 8 * c.bytes
  pub few : c.bits ≤ 16
  pub some : c.form ≡ Field → 1 ≤ c.bits
  pub packed : c.form ≡ Array → packed_bytes c.bits c.count < c.count * c.bytes

-- so it is of each slot without a reason
abbrev pub AreShort : List Candidate → Type 0
AreShort slots = All (λ (c : Candidate). c.reason ≡ None → IsShort c) slots

-- the number of scalars of a slot, and its group, by its number
abbrev pub count_of : List Candidate → ℕ → ℕ
count_of slots slot = option_map_or (λ (c : Candidate). c.count) (slice_get slots slot) 0

abbrev pub group_in : List Candidate → ℕ → ℕ
group_in slots slot = option_map_or (λ (c : Candidate). c.group) (slice_get slots slot) 0
