-- Where a plan puts its slots: the numbers of words, packed arrays and tables, and the home of each slot. Words of static objects stand behind
-- the program's objects, in their order; behind them packed arrays, and tables, each by slot. Words of a structure stand behind its members.
use Rattle.std.specs.Prelude.{ℕ, ◌+◌, ◌/◌, nat_eq, pos, Bool, true, false, ◌&&◌, ◌||◌, List, [], ◌∷◌, length, map, take, Option, Some, None, option_and_then, option_map, position, slice_get, unwrap_or, if◌then◌else◌}
use Rattle.std.specs.List.{filter, flat_map}
use Rattle.std.specs.Option.{option_map_or}
use Rattle.cc_bins.specs.declared.types.Field.{Field}
use Rattle.cc_bins.specs.declared.types.Word.{Word}
use Rattle.cc_code.specs.Codings.{kind_of}
use Rattle.cc_code.specs.declared.kinds.Coding.{Coding}
use Rattle.cc_code.specs.declared.kinds.Coding.TheVariants as coding
use Rattle.cc_code.specs.Members.{members_of}
use Rattle.cc_names.specs.Names.{numbers_from}
use Rattle.cc_plan_legal.specs.declared.kinds.Plan.{Plan}
use Rattle.cc_plan_legal.specs.Legality.{field_of, is_among}
use Rattle.cc_plan_legal.specs.Lookup.{in_word as fields_in}
use Rattle.cc_plan_legal.specs.Short.{element_bits}
use Rattle.cc_program.specs.declared.program.Program.{Program}
use Rattle.cc_program.specs.declared.types.Structure.{Structure}
use Rattle.cc_program.specs.declared.value.Value.{Value}
use Rattle.cc_program.specs.declared.value.Value.TheVariants as value
use Rattle.cc_rewrite_codes.specs.Homes.{Code, Home, Fixed, InWord, InArray}
use Rattle.cc_slots_types.specs.declared.slot.Slot.{Slot}
use Rattle.cc_state_points.specs.CcStateFacts.declared.facts.Key.{Key}
use Rattle.cc_state_points.specs.CcStateFacts.declared.facts.Key.TheVariants as key
use Rattle.cc_state_points.specs.CcStateKeys.Keys.{is_key}
use Rattle.cc_slots.specs.Counts.{scalar_of}
use Rattle.cc_state_points.specs.CcState.Shape.{ctype_of}
use Rattle.cc_program.specs.declared.types.CType.{CType}
use Rattle.cc_operands.specs.CcSyntax.Values.{ValueType, NoValue, scalar_value}

module _ (slots : List Slot) (plan : Plan) where
  -- ---- words by owner: 0 is the program, and n + 1 the structure n

  abbrev pub owner : Word → ℕ
  owner w = w.group / 3

  abbrev pub is_of : ℕ → Word → Bool
  is_of n w = nat_eq (owner w) n

  abbrev pub words_of : ℕ → List Word
  words_of n = filter (is_of n) plan.words

  -- among the words of its owner
  abbrev pub rank_of : ℕ → ℕ → ℕ
  rank_of n word = length (filter (is_of n) (take word plan.words))

  -- ---- codings

  abbrev pub coding_of : Slot → Coding
  coding_of s = kind_of s.values s.bits

  abbrev pub is_table : Coding → Bool
  is_table coding.Table = true
  is_table coding.Const = false
  is_table coding.Direct = false
  is_table (coding.Biased low) = false

  abbrev pub is_coded : ℕ → Bool
  is_coded n = is_among (map (λ (f : Field). f.slot) plan.fields) n || is_among plan.arrays n

  abbrev pub has_table : ℕ → Bool
  has_table n = is_coded n && option_map_or (λ (s : Slot). is_table (coding_of s)) (slice_get slots n) false

  -- the slots that have tables
  abbrev pub tables : List ℕ
  tables = filter has_table (numbers_from 0 (length slots))

  abbrev pub place_among : List ℕ → ℕ → ℕ
  place_among list n = unwrap_or (position (nat_eq n) list) 0

  module _ (p : Program) where
    -- the type of a slot's scalars, and of their values
    abbrev pub scalar_type : Slot → Option CType
    scalar_type s = option_map scalar_of (ctype_of p s.key)

    abbrev pub type_of_slot : Slot → ValueType
    type_of_slot s = unwrap_or (option_and_then scalar_value (scalar_type s)) NoValue

    abbrev pub first_array : ℕ
    first_array = length p.objects + length (words_of 0)

    abbrev pub first_table : ℕ
    first_table = first_array + length plan.arrays

    abbrev pub members_before : ℕ → ℕ
    members_before s = option_map_or (λ (x : Structure). length x.members) (slice_get p.structures s) 0

    -- the number of a word, as an object or as a member
    abbrev pub word_number : Key → ℕ → ℕ
    word_number (key.Object i) word = length p.objects + rank_of 0 word
    word_number (key.Local f r) word = 0
    word_number (key.Member s m) word = members_before s + rank_of (s + 1) word

    abbrev pub code_of : List Slot → ℕ → Slot → Code
    code_of sharing n s = record { type = type_of_slot s; coding = coding_of s; values = members_of s.values; table = first_table + place_among tables n; sharing = sharing }

    -- no other field stands in its word
    abbrev pub is_alone : Field → Bool
    is_alone f = nat_eq (length (fields_in f.word plan.fields)) 1

    -- the slots of a word
    abbrev pub in_same : ℕ → List Slot
    in_same word = flat_map (λ (f : Field). option_map_or (λ s. s ∷ []) (slice_get slots f.slot) []) (fields_in word plan.fields)

    abbrev pub in_word : Field → Word → Slot → Home
    in_word f w s = InWord (word_number s.key f.word) (w.bits / 8) f.shift s.bits (is_alone f) (code_of (in_same f.word) f.slot s)

    abbrev pub of_field : ℕ → Slot → Option Field → Option Home
    of_field n s None = None
    of_field n s (Some f) = option_map (λ (w : Word). in_word f w s) (slice_get plan.words f.word)

    abbrev pub first_value : Slot → Value
    first_value s = unwrap_or (slice_get (members_of s.values) 0) (value.Int (pos 0))

    abbrev pub home_of_slot : ℕ → Slot → Option Home
    home_of_slot n s =
        if is_among plan.consts n then Some (Fixed (type_of_slot s) (first_value s))
        else (if is_among plan.arrays n then Some (InArray (first_array + place_among plan.arrays n) (element_bits s.bits) (code_of (s ∷ []) n s)) else of_field n s (field_of plan.fields n))

    abbrev pub number_of_key : Key → Option ℕ
    number_of_key k = position (λ (s : Slot). is_key k s.key) slots

    -- where the scalars of a key stand
    abbrev pub home_of : Key → Option Home
    home_of k = option_and_then (λ n. option_and_then (home_of_slot n) (slice_get slots n)) (number_of_key k)
