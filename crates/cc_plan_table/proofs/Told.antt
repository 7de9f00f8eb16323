-- The table of slots of which is known how their values are written, and how they are coded.
use Rattle.std.proofs.Common.{◌≡◌, ◌∙◌, ◌&&◌, ◌*◌, ◌+◌, ℕ, ℤ, Bool, true, false, if◌then◌else◌, nat_eq, List, [], ◌∷◌, ◌++◌, length, map, Option, Some, None, codes, refl, ap}
use Rattle.std.specs.Fmt.{signed_decimal}
use Rattle.std.proofs.lemmas.Option.{same_Some}
use Rattle.cc_code.specs.declared.kinds.Coding.{Coding}
use Rattle.cc_code.specs.declared.kinds.Coding.TheVariants as coding
use Rattle.cc_code.specs.Codings.{by_optional_ends}
use Rattle.cc_code.specs.Members.{members_of}
use Rattle.cc_cost_ranking.specs.declared.costs.Cost.{Cost}
use Rattle.cc_explicit.specs.Sets.{list_ends}
use Rattle.cc_program.specs.CcNum.Integers.{least_of_bits, most_of_bits}
use Rattle.cc_places.specs.declared.abs.Abs.TheVariants.{Ints, Addrs}
use Rattle.cc_places.specs.declared.addrs.Addrs.{Addrs as Set}
use Rattle.cc_plan_legal.specs.declared.kinds.Plan.{Plan}
use Rattle.cc_program.specs.declared.program.Program.{Program}
use Rattle.cc_program.specs.declared.value.Address.{Address}
use Rattle.cc_program.specs.declared.value.Value.TheVariants as value
use Rattle.cc_sets.specs.declared.range.Range.{Range}
use Rattle.cc_sets.specs.declared.vals.Vals.{Vals}
use Rattle.cc_sets.specs.declared.vals.Vals.TheVariants.{Few, Many}
use Rattle.cc_slots_types.specs.declared.class.Class.{Class}
use Rattle.cc_slots_types.specs.declared.reason.Reason.{Reason}
use Rattle.cc_slots_types.specs.declared.slot.Slot.{Slot}
use Rattle.cc_plan_table.specs.declared.row.Ram.{Ram}
use Rattle.cc_plan_table.specs.declared.standing.Standing.{Standing}
use Rattle.cc_plan_table.specs.declared.totals.Totals.{Totals}
use Rattle.cc_plan_table.specs.Columns.{bits_column, class_text, coding_of, coding_text, reason_column, slot_values, tells_values, word_column}
use Rattle.cc_plan_table.specs.Examples.{slot as a_slot, AreInts}
use Rattle.cc_plan_table.specs.Standings.{is_coded, standing_of}
use Rattle.cc_plan_table.specs.Table.{header, rows_text, slot_row, slot_rows, table_text, total_row, Row}
use Rattle.cc_state_texts.specs.Texts.{address_text, spaced, values_text}
use Rattle.cc_plan_table.specs.Totals.{cost_at, nothing, table_bytes, table_bytes_by, totals_from, totals_of, with_number}

-- ---- what is known of a slot: its values as they are written, the kind of its coding, and the bytes of its table

pub record Told : Type 0 where
  pub values : List ℕ
  pub coding : Coding
  pub bytes : ℕ

abbrev pub told : List ℕ → Coding → ℕ → Told
told values coding bytes = record { values = values; coding = coding; bytes = bytes }

pub record IsTold (p : Program) (slot : Slot) (t : Told) : Type 0 where
  pub values : slot_values p slot.values ≡ t.values
  pub coding : coding_of slot ≡ t.coding
  pub bytes : table_bytes slot ≡ t.bytes

abbrev pub AreTold : Program → List Slot → List Told → Type 0
AreTold p [] [] = Unit
AreTold p [] (t ∷ ts) = ⊥
AreTold p (s ∷ slots) [] = ⊥
AreTold p (s ∷ slots) (t ∷ ts) = IsTold p s t × AreTold p slots ts

-- ---- the table by what is known

abbrev row_by : List (List ℕ) → Slot → List ℕ → Coding → Standing → Row
row_by words slot values k s =
    slot.name ∷ class_text slot.class ∷ (if tells_values slot.reason then values else []) ∷ bits_column slot ∷ (if is_coded s then coding_text k else []) ∷ word_column words slot s ∷ reason_column slot s ∷ []

abbrev rows_by : List (List ℕ) → Plan → ℕ → List Slot → List Told → List Row
rows_by words plan number [] ts = []
rows_by words plan number (slot ∷ more) [] = []
rows_by words plan number (slot ∷ more) (t ∷ ts) = row_by words slot t.values t.coding (standing_of plan number) ∷ rows_by words plan (number + 1) more ts

abbrev with_bytes : Plan → List Cost → Totals → ℕ → ℕ → Totals
with_bytes plan costs t number bytes =
    if is_coded (standing_of plan number) then record { rom = t.rom + bytes; code = t.code + (cost_at costs number).code; time = t.time + (cost_at costs number).time; coded = t.coded + 1 } else t

abbrev totals_by : Plan → List Cost → Totals → ℕ → List Told → Totals
totals_by plan costs t number [] = t
totals_by plan costs t number (s ∷ ts) = totals_by plan costs (with_bytes plan costs t number s.bytes) (number + 1) ts

abbrev pub table_by : List (List ℕ) → List Slot → List Told → Plan → List Cost → Ram → List ℕ
table_by words slots ts plan costs ram = rows_text (header ∷ rows_by words plan 0 slots ts ++ total_row ram (totals_by plan costs nothing 0 ts) ∷ [])

row_is : (p : Program) (words : List (List ℕ)) (slot : Slot) (t : Told) (s : Standing) → IsTold p slot t → slot_row p words slot s ≡ row_by words slot t.values t.coding s
unfolding slot_row
row_is p words slot t s h = ap (λ (v : List ℕ). row_by words slot v (coding_of slot) s) h.values ∙ ap (λ (k : Coding). row_by words slot t.values k s) h.coding

rows_are : (p : Program) (words : List (List ℕ)) (plan : Plan) (number : ℕ) (slots : List Slot) (ts : List Told) → AreTold p slots ts → slot_rows p words plan number slots ≡ rows_by words plan number slots ts
rows_are p words plan number [] ts h = refl
rows_are p words plan number (slot ∷ more) [] h = absurd h
rows_are p words plan number (slot ∷ more) (t ∷ ts) h =
    ap (λ (r : Row). r ∷ slot_rows p words plan (number + 1) more) (row_is p words slot t (standing_of plan number) h.0)
    ∙ ap (λ (rs : List Row). row_by words slot t.values t.coding (standing_of plan number) ∷ rs) (rows_are p words plan (number + 1) more ts h.1)

totals_are : (p : Program) (plan : Plan) (costs : List Cost) (t : Totals) (number : ℕ) (slots : List Slot) (ts : List Told) → AreTold p slots ts → totals_from plan costs t number slots ≡ totals_by plan costs t number ts
totals_are p plan costs t number [] [] h = refl
totals_are p plan costs t number [] (s ∷ ts) h = absurd h
totals_are p plan costs t number (slot ∷ more) [] h = absurd h
totals_are p plan costs t number (slot ∷ more) (s ∷ ts) h =
    ap (λ (n : ℕ). totals_from plan costs (with_bytes plan costs t number n) (number + 1) more) h.0.bytes
    ∙ totals_are p plan costs (with_bytes plan costs t number s.bytes) (number + 1) more ts h.1

pub table_is : (p : Program) (words : List (List ℕ)) (slots : List Slot) (ts : List Told) (plan : Plan) (costs : List Cost) (ram : Ram) → AreTold p slots ts
    → table_text p words slots plan costs ram ≡ table_by words slots ts plan costs ram
table_is p words slots ts plan costs ram h =
    ap (λ (rows : List Row). rows_text (header ∷ rows ++ total_row ram (totals_of plan costs slots) ∷ [])) (rows_are p words plan 0 slots ts h)
    ∙ ap (λ (t : Totals). rows_text (header ∷ rows_by words plan 0 slots ts ++ total_row ram t ∷ [])) (totals_are p plan costs nothing 0 slots ts h)

-- ---- slots of which it is known

-- whatever it is
abbrev pub as_it_is : Program → Slot → Told
as_it_is p slot = told (slot_values p slot.values) (coding_of slot) (table_bytes slot)

pub is_as_it_is : (p : Program) (slot : Slot) → IsTold p slot (as_it_is p slot)
is_as_it_is p slot = record { values = refl; coding = refl; bytes = refl }

abbrev bytes_by : Coding → ℕ → ℕ
bytes_by coding.Const n = 0
bytes_by coding.Direct n = 0
bytes_by (coding.Biased low) n = 0
bytes_by coding.Table n = n

bytes_are : (k : Coding) (slot : Slot) → table_bytes_by k slot ≡ bytes_by k (length (members_of slot.values) * slot.bytes)
bytes_are coding.Const slot = refl
bytes_are coding.Direct slot = refl
bytes_are (coding.Biased low) slot = refl
bytes_are coding.Table slot = refl

abbrev few_kind : List ℤ → ℕ → Coding
few_kind xs bits = if nat_eq (length xs) 1 && nat_eq bits 0 then coding.Const else by_optional_ends bits (list_ends xs)

-- integers that are told one by one
abbrev pub few : List ℤ → ℕ → ℕ → Told
few xs bits bytes = told (spaced (map signed_decimal xs)) (few_kind xs bits) (bytes_by (few_kind xs bits) (length (map value.Int xs) * bytes))

pub are_few : (p : Program) (name : List ℕ) (class : Class) (x : Vals) (xs : List ℤ) (bits count bytes : ℕ) (r : Option Reason) → AreInts x xs
    → IsTold p (a_slot name class (Ints x) bits count bytes r) (few xs bits bytes)
unfolding values_text coding_of table_bytes
are_few p name class (Many q) xs bits count bytes r e = let z : None ≡ Some xs = e in absurd (cc)
are_few p name class (Few s) xs bits count bytes r e =
    let h = same_Some s.items.items xs e in
    record {
      values = ap (λ (ys : List ℤ). spaced (map signed_decimal ys)) h;
      coding = ap (λ (ys : List ℤ). few_kind ys bits) h;
      bytes = bytes_are (few_kind s.items.items bits) (a_slot name class (Ints (Few s)) bits count bytes r)
          ∙ ap (λ (ys : List ℤ). bytes_by (few_kind ys bits) (length (map value.Int ys) * bytes)) h;
    }

-- all numbers of so many bits
abbrev pub range_text : Bool → ℕ → List ℕ
range_text signed bits = signed_decimal (least_of_bits signed bits) ++ codes ".." ++ signed_decimal (most_of_bits signed bits)

abbrev pub range : Bool → ℕ → Slot → Told
range signed width slot = told (range_text signed width) (coding_of slot) (table_bytes slot)

pub is_range : (p : Program) (name : List ℕ) (class : Class) (q : Range) (signed : Bool) (width bits count bytes : ℕ) (r : Option Reason) → q.signed ≡ signed → q.bits ≡ width
    → IsTold p (a_slot name class (Ints (Many q)) bits count bytes r) (range signed width (a_slot name class (Ints (Many q)) bits count bytes r))
unfolding values_text
is_range p name class q signed width bits count bytes r e f = record {
  values = ap (λ (b : Bool). range_text b q.bits) e ∙ ap (range_text signed) f;
  coding = refl;
  bytes = refl;
}

-- addresses that are told one by one
abbrev address_kind : ℕ → ℕ → Coding
address_kind n bits = if nat_eq n 1 && nat_eq bits 0 then coding.Const else coding.Table

abbrev pub addresses : Program → List Address → ℕ → ℕ → Told
addresses p xs bits bytes = told (spaced (map (address_text p true) xs)) (address_kind (length xs) bits) (bytes_by (address_kind (length xs) bits) (length (map value.Place xs) * bytes))

pub are_addresses : (p : Program) (name : List ℕ) (class : Class) (s : Set) (xs : List Address) (bits count bytes : ℕ) (r : Option Reason) → s.is_exact ≡ true → s.members ≡ xs
    → IsTold p (a_slot name class (Addrs s) bits count bytes r) (addresses p xs bits bytes)
unfolding values_text coding_of table_bytes
are_addresses p name class s xs bits count bytes r e h = record {
  values = ap (λ (b : Bool). spaced (map (address_text p b) s.members)) e ∙ ap (λ (ys : List Address). spaced (map (address_text p true) ys)) h;
  coding = ap (λ (ys : List Address). address_kind (length ys) bits) h;
  bytes = bytes_are (address_kind (length s.members) bits) (a_slot name class (Addrs s) bits count bytes r)
      ∙ ap (λ (ys : List Address). bytes_by (address_kind (length ys) bits) (length (map value.Place ys) * bytes)) h;
}
