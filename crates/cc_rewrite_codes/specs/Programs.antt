-- The program whose coded slots stand in words. Its objects are those of the program, with words behind their structures' members, and then
-- words, packed arrays and tables; the coded ones are not accessed any more. Its temporaries have no names yet.
use Rattle.std.specs.Prelude.{List, None, Option, Some, [], codes, false, if◌then◌else◌, length, map, pos, replicate, slice_get, true, unwrap_or, zip, ℕ, ◌++◌, ◌+◌, ◌/◌, ◌==◌, ◌∷◌}
use Rattle.std.specs.List.{enumerate_from, filter, flat_map}
use Rattle.std.specs.Option.{option_map_or}
use Rattle.cc_bins.specs.declared.types.Field.{Field}
use Rattle.cc_bins.specs.declared.types.Word.{Word}
use Rattle.cc_state_points.specs.CcFlowSound.Moves.{entry}
use Rattle.cc_lower_expressions.specs.Expressions.{Piece}
use Rattle.cc_lower_expressions.specs.Temporaries.{declared_type}
use Rattle.cc_lower_numbers.specs.Numbered.{names_of_program}
use Rattle.cc_names.specs.Names.{Numbered, names_for}
use Rattle.cc_operands.specs.Qualified.{plain}
use Rattle.cc_plan_legal.specs.declared.kinds.Plan.{Plan}
use Rattle.cc_plan_legal.specs.Lookup.{in_word as fields_of_word}
use Rattle.cc_plan_legal.specs.Short.{element_bits}
use Rattle.cc_program.specs.declared.func.Func.{Func}
use Rattle.cc_program.specs.declared.object.Object.{Object}
use Rattle.cc_program.specs.declared.program.Program.{Program}
use Rattle.cc_program.specs.declared.types.CType.{CType}
use Rattle.cc_program.specs.declared.types.Shape.{Int, Array}
use Rattle.cc_program.specs.declared.types.Structure.{Structure}
use Rattle.cc_program.specs.declared.value.Value.{Value}
use Rattle.cc_program.specs.declared.value.Value.TheVariants as value
use Rattle.cc_rewrite_codes.specs.FirstValues.{code_of as code_number, each_in, in_word, initial, leaf_of, of_codes, packed_codes, row_count}
use Rattle.cc_rewrite_codes.specs.Guards.{may_touch, may_write}
use Rattle.cc_rewrite_codes.specs.Homes.{Code, Home}
use Rattle.cc_rewrite_codes.specs.Placed.{code_of, home_of, is_of, scalar_type, tables}
use Rattle.cc_rewrite_codes.specs.Relaid.{relaid}
use Rattle.cc_rewrite_codes.specs.Statements.{coded_list}
use Rattle.cc_rewrite_codes.specs.Words.{word_type}
use Rattle.cc_slots_types.specs.declared.slot.Slot.{Slot}
use Rattle.cc_state_points.specs.CcStateFacts.declared.facts.Facts.{Facts}
use Rattle.cc_state_points.specs.CcStateFacts.declared.facts.Key.{Key}
use Rattle.cc_state_points.specs.CcStateFacts.declared.facts.Key.TheVariants as key
use Rattle.cc_state_points.specs.CcSteps.State.{first_values}
use Rattle.cc_operands.specs.CcSyntax.Types.{Named}

-- ---- names: `w__1` and so on for words, and `v__1` and so on for tables, without those that the program has

abbrev pub word_names : Program → Plan → List (List ℕ)
word_names p plan = names_for (names_of_program p) [] [] (replicate (length plan.words) (Numbered (codes "w")))

abbrev pub table_names : Program → ℕ → List (List ℕ)
table_names p count = names_for (names_of_program p) [] [] (replicate count (Numbered (codes "v")))

abbrev pub name_at : List (List ℕ) → ℕ → List ℕ
name_at names n = unwrap_or (slice_get names n) []

abbrev pub plain_word : ℕ → CType
plain_word bytes = plain (Int (word_type bytes))

module _ (slots : List Slot) (plan : Plan) (p : Program) where
  abbrev home : Key → Option Home
  home = home_of slots plan p

  abbrev slot_at : ℕ → Option Slot
  slot_at n = slice_get slots n

  abbrev its_code : ℕ → Slot → Code
  its_code n s = code_of slots plan p [] n s

  -- ---- words

  -- the fields of a word, each with its slot
  abbrev pub fields_in : ℕ → List (Field × Slot)
  fields_in word = flat_map (λ (f : Field). option_map_or (λ s. (f, s) ∷ []) (slot_at f.slot) []) (fields_of_word word plan.fields)

  -- by the first value of each of its slots
  abbrev pub word_value : (Key → Value) → ℕ → ℕ
  word_value first word = in_word (map (λ (x : Field × Slot). (code_number (its_code x.0.slot x.1) (first x.1.key), x.0.shift)) (fields_in word))

  -- the words of an owner, each with its number
  abbrev pub owned : ℕ → List (ℕ × Word)
  owned n = filter (λ (x : ℕ × Word). is_of slots plan n x.1) (enumerate_from 0 plan.words)

  abbrev pub word_name : ℕ → List ℕ
  word_name word = name_at (word_names p plan) word

  abbrev pub first_of : Key → List Value
  first_of (key.Object i) = option_map_or (first_values p) (slice_get p.objects i) []
  first_of (key.Local f r) = []
  first_of (key.Member s m) = []

  abbrev pub scalar_first : Key → Value
  scalar_first k = unwrap_or (slice_get (first_of k) 0) (value.Int (pos 0))

  abbrev pub word_object : ℕ × Word → Object
  word_object x = record { name = word_name x.0; ctype = plain_word (x.1.bits / 8); init = of_codes (word_value scalar_first x.0 ∷ []) }

  -- ---- packed arrays

  abbrev pub element_bytes : ℕ → ℕ
  element_bytes bits = if bits == 16 then 2 else 1

  abbrev pub array_codes : ℕ → Slot → List ℕ
  array_codes n s = map (code_number (its_code n s)) (first_of s.key)

  abbrev pub packed_object : List ℕ → ℕ → ℕ → List ℕ → Object
  packed_object name bits count numbers = record {
    name = name;
    ctype = plain (Array (plain_word (element_bytes bits)) (row_count (each_in bits) count));
    init = of_codes (packed_codes bits numbers);
  }

  abbrev pub array_object : ℕ → List Object
  array_object n = option_map_or (λ (s : Slot). packed_object s.name (element_bits s.bits) (length (first_of s.key)) (array_codes n s) ∷ []) (slot_at n) []

  -- ---- tables

  abbrev pub constant : Option CType → CType
  constant None = plain_word 1
  constant (Some t) = record t { constant = true; volatile = false }

  abbrev pub table_of : List ℕ → ℕ → Slot → Object
  table_of name n s =
      let values = (its_code n s).values in
      record { name = name; ctype = plain (Array (constant (scalar_type slots plan p s)) (length values)); init = initial (map leaf_of values) }

  abbrev pub table_object : List ℕ × ℕ → List Object
  table_object x = option_map_or (λ s. table_of x.0 x.1 s ∷ []) (slot_at x.1) []

  abbrev pub table_objects : List Object
  table_objects = flat_map table_object (zip (table_names p (length (tables slots plan))) (tables slots plan))

  -- ---- structures

  abbrev pub member_first : List (List Value) → Key → Value
  member_first values (key.Member s m) = unwrap_or (slice_get (unwrap_or (slice_get values m) []) 0) (value.Int (pos 0))
  member_first values (key.Object i) = value.Int (pos 0)
  member_first values (key.Local f r) = value.Int (pos 0)

  abbrev pub words_first : ℕ → List (List Value) → List Value
  words_first s values = map (λ (x : ℕ × Word). value.Int (pos (word_value (member_first values) x.0))) (owned (s + 1))

  -- the words stand behind the members
  abbrev pub with_words_first : ℕ → List (List Value) → List Value
  with_words_first s values = flat_map (λ vs. vs) values ++ words_first s values

  abbrev pub word_member : ℕ × Word → Named
  word_member x = (word_name x.0, plain_word (x.1.bits / 8))

  abbrev pub with_words : ℕ × Structure → Structure
  with_words x = record x.1 { members = x.1.members ++ map word_member (owned (x.0 + 1)) }

  abbrev pub relaid_object : Object → Object
  relaid_object o = record o { init = initial (map leaf_of (relaid with_words_first p.structures o.ctype (first_values p o))) }

  -- ---- functions

  module _ {I : Type 0} (facts : Facts I) where
    abbrev pub made_of : ℕ → Func → Piece (Unit {0} × ℕ)
    made_of id f = coded_list p id f home (may_write p facts) (may_touch p facts) f.body (entry p id) (length f.locals)

    abbrev pub temporaries : ℕ → Func → List Named
    temporaries id f = map (λ t. ([], declared_type t)) (made_of id f).temps

    abbrev pub coded_func : ℕ × Func → Func
    coded_func x = record x.1 { locals = x.1.locals ++ temporaries x.0 x.1; body = (made_of x.0 x.1).stmts }

    unfoldable pub coded_program : Program
    coded_program = record p {
      structures = map with_words (enumerate_from 0 p.structures);
      objects = map relaid_object p.objects ++ (map word_object (owned 0) ++ (flat_map array_object plan.arrays ++ table_objects));
      funcs = map coded_func (enumerate_from 0 p.funcs);
    }
