-- Slots and plans whose table is known.
use Rattle.std.specs.Prelude.{◌≡◌, ℕ, ℤ, pos, List, [], ◌∷◌, Option, Some, None, codes, refl}
use Rattle.cc_bins.specs.declared.types.Field.{Field}
use Rattle.cc_bins.specs.declared.types.Word.{Word}
use Rattle.cc_cost_ranking.specs.declared.costs.Cost.{Cost}
use Rattle.cc_places.specs.declared.abs.Abs.{Abs}
use Rattle.cc_places.specs.declared.abs.Abs.TheVariants.{Ints, Addrs}
use Rattle.cc_places.specs.declared.addrs.Addrs.{Addrs as Set}
use Rattle.cc_plan_legal.specs.declared.kinds.Plan.{Plan}
use Rattle.cc_sets.specs.declared.range.Range.{Range}
use Rattle.cc_sets.specs.declared.vals.Vals.{Vals}
use Rattle.cc_sets.specs.declared.vals.Vals.TheVariants.{Many}
use Rattle.cc_sets.specs.Rungs.{vals_members}
use Rattle.cc_slots_types.specs.declared.class.Class.{Class}
use Rattle.cc_slots_types.specs.declared.class.Class.TheVariants.{Lone, Written}
use Rattle.cc_slots_types.specs.declared.reason.Reason.{Reason}
use Rattle.cc_slots_types.specs.declared.reason.Reason.TheVariants as reason
use Rattle.cc_slots_types.specs.declared.slot.Slot.{Slot}
use Rattle.cc_state_facts.specs.declared.facts.Key.TheVariants as key
use Rattle.cc_plan_table.specs.declared.row.Ram.{Ram}

-- ---- slots: a name, values, the bits of a code, how many scalars there are, and the bytes of one

abbrev pub slot : List ℕ → Class → Abs Vals → ℕ → ℕ → ℕ → Option Reason → Slot
slot name class values bits count bytes r = record {
  name = name;
  key = key.Object 0;
  class = class;
  values = values;
  count = count;
  bytes = bytes;
  bits = bits;
  reads = [];
  writes = [];
  reason = r;
}

abbrev pub cost : ℕ → ℕ → Cost
cost code time = record { code = code; time = time }

abbrev pub ram : ℕ → ℕ → Ram
ram before after = record { before = before; after = after }

abbrev pub field : ℕ → ℕ → ℕ → Field
field slot word shift = record { slot = slot; word = word; shift = shift }

-- a word of 8 bits, of slots that are no members and that no handler accesses
abbrev pub byte_word : Word
byte_word = record { group = 0; bits = 8 }

-- integers that are told one by one
abbrev pub AreInts : Vals → List ℤ → Type 0
AreInts x members = vals_members x ≡ Some members

-- ---- three scalars that share a word: of 1 bit at bit 6, of 2 at bit 4, and of 4 at bit 0

abbrev pub three_scalars : Vals → Vals → Vals → List Slot
three_scalars a b c =
    slot (codes "a") Lone (Ints a) 1 1 1 None
    ∷ slot (codes "b") Lone (Ints b) 2 1 1 None
    ∷ slot (codes "c") Lone (Ints c) 4 1 1 None
    ∷ []

abbrev pub in_one_word : Plan
in_one_word = record {
  fields = field 0 0 6 ∷ field 1 0 4 ∷ field 2 0 0 ∷ [];
  consts = [];
  arrays = [];
  words = byte_word ∷ [];
  budget = [];
  dissolved = [];
  fields_ascend = refl;
  consts_ascend = refl;
  arrays_ascend = refl;
  budget_ascends = refl;
  dissolved_ascend = refl;
  words_are_there = refl;
  words_are_used = refl;
}

abbrev pub three_costs : List Cost
three_costs = cost 16 12 ∷ cost 24 18 ∷ cost 24 18 ∷ []

abbrev pub zero_to_nine : List ℤ
zero_to_nine = pos 0 ∷ pos 1 ∷ pos 2 ∷ pos 3 ∷ pos 4 ∷ pos 5 ∷ pos 6 ∷ pos 7 ∷ pos 8 ∷ pos 9 ∷ []

-- ---- an array of ten scalars of 2 bits, a constant, and four slots that are not coded

abbrev pub six_slots : Vals → Vals → Vals → Vals → Vals → Range → List Slot
six_slots a k b d v r =
    slot (codes "a") Lone (Ints a) 2 10 1 None
    ∷ slot (codes "k") Lone (Ints k) 0 1 2 None
    ∷ slot (codes "b") Lone (Ints b) 4 1 1 None
    ∷ slot (codes "d") Written (Ints d) 1 1 1 None
    ∷ slot (codes "v") Written (Ints v) 8 1 1 (Some reason.Volatile)
    ∷ slot (codes "s.m") Lone (Ints (Many r)) 8 2 1 (Some reason.Wide)
    ∷ []

abbrev pub array_and_const : Plan
array_and_const = record {
  fields = [];
  consts = 1 ∷ [];
  arrays = 0 ∷ [];
  words = [];
  budget = 2 ∷ [];
  dissolved = 3 ∷ [];
  fields_ascend = refl;
  consts_ascend = refl;
  arrays_ascend = refl;
  budget_ascends = refl;
  dissolved_ascend = refl;
  words_are_there = refl;
  words_are_used = refl;
}

abbrev pub six_costs : List Cost
six_costs = cost 14 10 ∷ cost 0 0 ∷ cost 24 18 ∷ cost 8 6 ∷ cost 0 0 ∷ cost 0 0 ∷ []

-- ---- a pointer of 2 bytes, which may be null or lead to one of two functions

abbrev pub one_pointer : Set → List Slot
one_pointer s = slot (codes "task") Lone (Addrs s) 2 1 2 None ∷ []

abbrev pub pointer_in_word : Plan
pointer_in_word = record {
  fields = field 0 0 0 ∷ [];
  consts = [];
  arrays = [];
  words = byte_word ∷ [];
  budget = [];
  dissolved = [];
  fields_ascend = refl;
  consts_ascend = refl;
  arrays_ascend = refl;
  budget_ascends = refl;
  dissolved_ascend = refl;
  words_are_there = refl;
  words_are_used = refl;
}

abbrev pub one_cost : List Cost
one_cost = cost 58 37 ∷ []
