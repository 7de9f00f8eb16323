-- The orders of objects and of members: coded ones are left out, a word stands in the place of its first slot, and a packed array in that of its
-- own; then all stand by alignment descending, as they are without the members that are left out, those of one alignment as before. Tables
-- stand behind the objects.
use Rattle.std.specs.Prelude.{ℕ, ◌+◌, nat_eq, nat_le, Bool, true, false, not, ◌&&◌, List, [], ◌∷◌, ◌++◌, length, map, take, Option, Some, None, position, slice_get, unwrap_or, if◌then◌else◌}
use Rattle.std.specs.List.{enumerate_from, flat_map, list_any}
use Rattle.std.specs.Option.{option_map_or}
use Rattle.cc_bins.specs.declared.types.Field.{Field}
use Rattle.cc_lower_numbers.specs.Order.{arranged}
use Rattle.cc_names.specs.Names.{numbers_from}
use Rattle.cc_plan_legal.specs.declared.kinds.Plan.{Plan}
use Rattle.cc_plan_legal.specs.Legality.{field_of, is_among}
use Rattle.cc_program.specs.declared.object.Object.{Object}
use Rattle.cc_program.specs.declared.program.Program.{Program}
use Rattle.cc_program.specs.declared.types.Structure.{Structure}
use Rattle.cc_rewrite_codes.specs.Placed.{first_array, first_table, owner, place_among, tables, word_number}
use Rattle.cc_slots_types.specs.declared.slot.Slot.{Slot}
use Rattle.cc_state_points.specs.CcStateFacts.declared.facts.Key.{Key}
use Rattle.cc_state_points.specs.CcStateFacts.declared.facts.Key.TheVariants as key
use Rattle.cc_state_points.specs.CcStateKeys.Keys.{is_key}
use Rattle.cc_state_points.specs.CcSyntax.declared.sizes.Layout.{Layout}
use Rattle.cc_state_points.specs.CcSyntax.Layout.{layout_of}
use Rattle.cc_state_points.specs.CcSyntax.Types.{Named}

-- ---- by alignment descending

module _ (align : ℕ → ℕ) where
  -- behind all that have no lower alignment
  abbrev pub put : ℕ → List ℕ → List ℕ
  put i [] = i ∷ []
  put i (j ∷ js) = if nat_le (align i) (align j) then j ∷ put i js else i ∷ j ∷ js

  abbrev pub put_all : List ℕ → List ℕ → List ℕ
  put_all [] sorted = sorted
  put_all (i ∷ is) sorted = put_all is (put i sorted)

  abbrev pub by_alignment : List ℕ → List ℕ
  by_alignment is = put_all is []

module _ (slots : List Slot) (plan : Plan) (p : Program) where
  abbrev number_of : Key → Option ℕ
  number_of k = position (λ (s : Slot). is_key k s.key) slots

  -- ---- in the place of a slot

  -- the field of its word's first slot
  abbrev pub is_first : Field → Bool
  is_first f = not (list_any (λ (g : Field). nat_eq g.word f.word && not (nat_le f.slot g.slot)) plan.fields)

  abbrev pub word_for : Key → ℕ → Option Field → List ℕ
  word_for k i None = i ∷ []
  word_for k i (Some f) = if is_first f then word_number slots plan p k f.word ∷ [] else []

  abbrev pub for_slot : Key → ℕ → Option ℕ → List ℕ
  for_slot k i None = i ∷ []
  for_slot k i (Some n) =
      if is_among plan.consts n then [] else (if is_among plan.arrays n then (first_array slots plan p + place_among slots plan plan.arrays n) ∷ [] else word_for k i (field_of plan.fields n))

  -- what stands for an object, and for a member
  abbrev pub for_key : Key → ℕ → List ℕ
  for_key k i = for_slot k i (number_of k)

  -- ---- over the coded program

  abbrev pub members_of : ℕ → List Structure → List Named
  members_of s structures = option_map_or (λ (x : Structure). x.members) (slice_get structures s) []

  -- the members that are left, and words in the place of others
  abbrev pub own_order : ℕ → List ℕ
  own_order s = flat_map (λ m. for_key (key.Member s m) m) (numbers_from 0 (length (members_of s p.structures)))

  -- a structure without words keeps its order
  abbrev pub is_changed : ℕ → Bool
  is_changed s = list_any (λ w. nat_eq (owner slots plan w) (s + 1)) plan.words

  abbrev pub table_numbers : List ℕ
  table_numbers = numbers_from (first_table slots plan p) (length (tables slots plan))

  module _ (coded : Program) where
    -- the structures without the members that are left out; whatever the order of the others, their alignments are these
    abbrev pub left_in : ℕ × Structure → Structure
    left_in x = record x.1 { members = arranged x.1.members (own_order x.0) }

    abbrev pub structures_left : List Structure
    structures_left = map left_in (enumerate_from 0 coded.structures)

    abbrev pub object_align : ℕ → ℕ
    object_align i = option_map_or (λ (o : Object). (layout_of o.ctype structures_left coded.target).align) (slice_get coded.objects i) 1

    abbrev pub object_order : List ℕ
    object_order = by_alignment object_align (flat_map (λ i. for_key (key.Object i) i) (numbers_from 0 (length p.objects))) ++ table_numbers

    abbrev pub member_align : ℕ → ℕ → ℕ
    member_align s m = option_map_or (λ (x : Named). (layout_of x.1 (take s structures_left) coded.target).align) (slice_get (members_of s coded.structures) m) 1

    abbrev pub member_order : ℕ → List ℕ
    member_order s = if is_changed s then by_alignment (member_align s) (own_order s) else own_order s
