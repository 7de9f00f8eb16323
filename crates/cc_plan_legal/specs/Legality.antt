-- When a plan is legal: eight rules, for each slot that stands in one of its lists.
use Rattle.std.specs.Prelude.{ℕ, ◌+◌, ◌/◌, ◌==◌, max, min, Bool, true, false, not, ◌&&◌, ◌||◌, nat_lt, nat_le, List, [], ◌∷◌, Option, Some, None, option_map, slice_get, if◌then◌else◌}
use Rattle.std.specs.List.{find, list_any}
use Rattle.std.specs.Option.{option_or, option_and_then}
use Rattle.cc_bins.specs.declared.types.Field.{Field}
use Rattle.cc_bins.specs.declared.types.Word.{Word}
use Rattle.cc_plan_legal.specs.declared.candidate.Candidate.{Candidate}
use Rattle.cc_plan_legal.specs.declared.candidate.Form.{Form}
use Rattle.cc_plan_legal.specs.declared.candidate.Form.TheVariants as form
use Rattle.cc_plan_legal.specs.declared.kinds.Plan.{Plan}
use Rattle.cc_plan_legal.specs.declared.legal.Illegal.{Illegal}
use Rattle.cc_plan_legal.specs.Candidates.{bits_of, bytes_of, form_number}
use Rattle.cc_slots_types.specs.declared.reason.Reason.{Reason}
use Rattle.cc_slots_types.specs.Slots.{reason_number}

-- ---- where slots stand

abbrev pub is_among : List ℕ → ℕ → Bool
is_among slots slot = list_any (λ other. other == slot) slots

-- whether the list of a form has the slot
abbrev pub stands_as : Plan → ℕ → Form → Bool
stands_as plan slot form.Field = list_any (λ (f : Field). f.slot == slot) plan.fields
stands_as plan slot form.Const = is_among plan.consts slot
stands_as plan slot form.Array = is_among plan.arrays slot

abbrev pub one_if : Bool → ℕ
one_if true = 1
one_if false = 0

-- in how many lists a slot stands
abbrev pub times : Plan → ℕ → ℕ
times plan slot =
    one_if (stands_as plan slot form.Field)
    + one_if (stands_as plan slot form.Const)
    + one_if (stands_as plan slot form.Array)
    + one_if (is_among plan.budget slot)
    + one_if (is_among plan.dissolved slot)

-- ---- the bits of fields

-- the slot's field
abbrev pub field_of : List Field → ℕ → Option Field
field_of fields slot = find (λ (f : Field). f.slot == slot) fields

-- a field has the bits of its word from its shift up to its end
abbrev pub end_of : List Candidate → Field → ℕ
end_of slots f = f.shift + bits_of slots f.slot

-- whether two fields have a bit in common
abbrev pub overlap : List Candidate → Field → Field → Bool
overlap slots f g = (f.word == g.word) && nat_lt (max f.shift g.shift) (min (end_of slots f) (end_of slots g))

-- the first field of another slot that has a bit in common with this one
abbrev pub first_overlapped : List Candidate → List Field → Field → Option Field
first_overlapped slots fields f = find (λ (g : Field). not (g.slot == f.slot) && overlap slots f g) fields

-- the most bits of a slot in a word, and of no less than some bits
abbrev pub most_bits : List Candidate → ℕ → ℕ → List Field → ℕ
most_bits slots word least [] = least
most_bits slots word least (f ∷ fields) = most_bits slots word (if f.word == word then max least (bits_of slots f.slot) else least) fields

-- the bytes of the slots of a word together
abbrev pub bytes_in : List Candidate → ℕ → List Field → ℕ
bytes_in slots word [] = 0
bytes_in slots word (f ∷ fields) = (if f.word == word then bytes_of slots f.slot else 0) + bytes_in slots word fields

abbrev pub bytes_within : ℕ → ℕ → Option ℕ
bytes_within bytes most = if nat_le bytes most then Some bytes else None

-- ---- the rules

abbrev pub breach : ℕ → ℕ → ℕ → ℕ → Illegal
breach slot rule have need = record { slot = slot; rule = rule; have = have; need = need }

abbrev pub breach_where : Bool → Illegal → Option Illegal
breach_where true breach = Some breach
breach_where false breach = None

-- 1: the slot has a reason
abbrev pub has_reason : ℕ → Candidate → Option Illegal
has_reason slot c = option_map (λ (r : Reason). breach slot 1 (reason_number r) 0) c.reason

-- 2: its word's group is not its own
abbrev pub wrong_group : Candidate → Field → Word → Option Illegal
wrong_group c f w = breach_where (not (w.group == c.group)) (breach f.slot 2 w.group c.group)

-- 3: its bits overlap another's
abbrev pub overlaps : List Candidate → List Field → Field → Option Illegal
overlaps slots fields f = option_map (λ (g : Field). breach f.slot 3 f.shift g.shift) (first_overlapped slots fields f)

-- 4: its bits pass its word's end
abbrev pub passes_end : List Candidate → Field → Word → Option Illegal
passes_end slots f w = breach_where (nat_lt w.bits (end_of slots f)) (breach f.slot 4 (end_of slots f) w.bits)

-- a word has 8 bits, or 16 where a slot in it has more than 8
abbrev pub is_size : ℕ → ℕ → Bool
is_size bits most = (bits == 8) || ((bits == 16) && nat_lt 8 most)

-- 5: its word has another size
abbrev pub wrong_size : List Candidate → List Field → Field → Word → Option Illegal
wrong_size slots fields f w = breach_where (not (is_size w.bits (most_bits slots f.word 0 fields))) (breach f.slot 5 w.bits (most_bits slots f.word 0 fields))

-- 6: its word has no fewer bytes than its slots together
abbrev pub saves_nothing : List Candidate → List Field → Field → Word → Option Illegal
saves_nothing slots fields f w = option_map (breach f.slot 6 (w.bits / 8)) (bytes_within (bytes_in slots f.word fields) (w.bits / 8))

-- the rules of a field
abbrev pub breaks_in_word : List Candidate → List Field → Candidate → Field → Word → Option Illegal
breaks_in_word slots fields c f w =
    option_or (wrong_group c f w)
    (option_or (overlaps slots fields f)
    (option_or (passes_end slots f w)
    (option_or (wrong_size slots fields f w)
    (saves_nothing slots fields f w))))

-- the rules of the slot's field, where it has one
abbrev pub breaks_as_field : List Candidate → Plan → ℕ → Candidate → Option Illegal
breaks_as_field slots plan slot c =
    option_and_then (λ (f : Field). option_and_then (breaks_in_word slots plan.fields c f) (slice_get plan.words f.word)) (field_of plan.fields slot)

-- 7: it stands in another of the lists fields, consts and arrays than it should
abbrev pub misplaced_as : Plan → ℕ → Candidate → Form → Option Illegal
misplaced_as plan slot c as_form =
    breach_where (stands_as plan slot as_form && not (form_number as_form == form_number c.form)) (breach slot 7 (form_number as_form) (form_number c.form))

abbrev pub misplaced : Plan → ℕ → Candidate → Option Illegal
misplaced plan slot c = option_or (misplaced_as plan slot c form.Field) (option_or (misplaced_as plan slot c form.Const) (misplaced_as plan slot c form.Array))

-- 8: it stands in more than one list
abbrev pub repeated : Plan → ℕ → Option Illegal
repeated plan slot = breach_where (nat_lt 1 (times plan slot)) (breach slot 8 (times plan slot) 1)

-- the least rule that a slot breaks
abbrev pub breaks : List Candidate → Plan → ℕ → Candidate → Option Illegal
breaks slots plan slot c =
    if nat_lt 0 (times plan slot) then option_or (has_reason slot c) (option_or (breaks_as_field slots plan slot c) (option_or (misplaced plan slot c) (repeated plan slot)))
    else None

-- the first slot that breaks a rule, of those from this number on
abbrev pub first_breach : List Candidate → Plan → ℕ → List Candidate → Option Illegal
first_breach slots plan number [] = None
first_breach slots plan number (c ∷ more) = option_or (breaks slots plan number c) (first_breach slots plan (number + 1) more)

abbrev pub first_illegal : List Candidate → Plan → Option Illegal
first_illegal slots plan = first_breach slots plan 0 slots
