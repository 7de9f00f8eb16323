-- A slot whose values do not keep it from being coded has a short code; the code of no values; the test of wide slots.
use Rattle.std.proofs.Common.{◌≡◌, ◌≤◌, ◌<◌, ◌*◌, ◌^◌, nat_eq, ℕ, Bool, true, false, refl, arith, ⊎_elim, if◌then◌else◌}
use Rattle.std.proofs.lemmas.Bool.{cases_lt}
use Rattle.std.proofs.lemmas.Bool.Decides.{nat_tests}
use Rattle.cc_code.specs.Codings.{kind_of}
use Rattle.cc_code.specs.Members.{count_of, has_coding}
use Rattle.cc_state_points.specs.CcPlaces.declared.abs.Abs.{Abs}
use Rattle.cc_plan_legal.specs.declared.candidate.Form.{Form}
use Rattle.cc_plan_legal.specs.declared.candidate.Form.TheVariants as form
use Rattle.cc_plan_legal.specs.Candidates.{candidate_of, form_by}
use Rattle.cc_plan_legal.specs.Short.{packed_bytes, IsShort}
use Rattle.cc_program.specs.declared.program.Program.{Program}
use Rattle.cc_sets.specs.declared.vals.Vals.{Vals}
use Rattle.cc_slots_accesses.specs.Arrays.{is_array}
use Rattle.cc_slots.specs.Reasons.{AreBits, IsCoded, IsWide, IsNotShorter, IsLong, SavesNothing}
use Rattle.cc_slots_types.specs.declared.slot.Slot.{Slot}
use Rattle.cc_slots_types.specs.Slots.{least_bits_of}
use Rattle.cc_state_points.specs.CcStateFacts.declared.facts.Key.{Key}

not_zero : (n : ℕ) → nat_eq n 0 ≡ false → 1 ≤ n
not_zero n e = grind (arith, nat_tests)

-- ---- forms

field_step : (n : ℕ) (t b : Bool) → nat_eq n 0 ≡ t → ◌≡◌ {A = Form} (if t then form.Const else (if b then form.Array else form.Field)) form.Field → 1 ≤ n
field_step n true b e h = let k : form.Const ≡ form.Field = h in absurd (cc)
field_step n false b e h = not_zero n e

some_bits : (n : ℕ) (b : Bool) → form_by n b ≡ form.Field → 1 ≤ n
some_bits n b h = field_step n (nat_eq n 0) b refl h

array_step : (t b : Bool) → ◌≡◌ {A = Form} (if t then form.Const else (if b then form.Array else form.Field)) form.Array → b ≡ true
array_step true b h = let k : form.Const ≡ form.Array = h in absurd (cc)
array_step false true h = refl
array_step false false h = let k : form.Field ≡ form.Array = h in absurd (cc)

of_array : (n : ℕ) (b : Bool) → form_by n b ≡ form.Array → b ≡ true
of_array n b h = array_step (nat_eq n 0) b h

-- ---- short codes

pub short : (p : Program) (slot : Slot) → (IsWide p slot.key slot.values slot.count slot.bytes slot.bits → ⊥) → IsShort (candidate_of slot (is_array p slot.key))
short p slot n = record {
  shorter = ⊎_elim (λ (l : slot.bits < 8 * slot.bytes). l) (λ (h : 8 * slot.bytes ≤ slot.bits). absurd (n (IsNotShorter h))) (cases_lt slot.bits (8 * slot.bytes));
  few = ⊎_elim (λ (h : 16 < slot.bits). absurd (n (IsLong h))) (λ (l : slot.bits ≤ 16). l) (cases_lt 16 slot.bits);
  some = λ e. some_bits slot.bits (is_array p slot.key) e;
  packed = λ e. ⊎_elim
      (λ (l : packed_bytes slot.bits slot.count < slot.count * slot.bytes). l)
      (λ (h : slot.count * slot.bytes ≤ packed_bytes slot.bits slot.count). absurd (n (SavesNothing (of_array slot.bits (is_array p slot.key) e) h)))
      (cases_lt (packed_bytes slot.bits slot.count) (slot.count * slot.bytes));
}

-- ---- the code of no values

pub none_coded : (k : Key) (values : Abs Vals) (bytes : ℕ) → count_of values ≡ 0 → has_coding values ≡ true → AreBits k values bytes (least_bits_of k)
none_coded k values bytes e t = IsCoded (kind_of values (least_bits_of k)) (record {
  told = t;
  bits = record { enough = few (count_of values) (2 ^ least_bits_of k) e; asked = omega arith; no_more = λ b l m. m };
  kind = refl;
})
  where
    few : (n m : ℕ) → n ≡ 0 → n ≤ m
    few n m e = omega (arith, e)
