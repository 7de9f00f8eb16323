-- What the code keeps of structures: their tags and members in one list and their layouts in another, as calls take
-- them, and what else is known of each in a third.
use Rattle.std.specs.Prelude.{Bool, true, false, ◌&&◌, ◌||◌, nat_eq, List, [], ◌∷◌, map, length, Option, Some, None, if◌then◌else◌}
use Rattle.std.specs.List.{list_all, zip}
use Rattle.cc_program.specs.declared.types.Structure.{Structure}
use Rattle.cc_operands.specs.CcSyntax.Types.{Named}
use Rattle.cc_operands.specs.CcSyntax.declared.sizes.Layout.{Layout}
use Rattle.cc_scopes.specs.State.{Name, KnownStructure}
use Rattle.cc_scopes.specs.declared.standing.Standing.{Standing}

abbrev pub Entry : Type 0
Entry = Structure × (Standing × Layout)

abbrev pub entries_of : List Structure → List Standing → List Layout → List Entry
entries_of all standings layouts = zip all (zip standings layouts)

-- of one without a tag the list has none, and of one that is incomplete no members
abbrev pub some_if : {A : Type 0} → Bool → A → Option A
some_if there x = if there then Some x else None

abbrev pub known : Entry → KnownStructure
known e = record { tag = some_if e.1.0.tagged e.0.tag; alias = e.1.0.alias; members = some_if e.1.0.complete e.0.members; layout = e.1.1 }

abbrev pub known_structures : List Entry → List KnownStructure
known_structures entries = map known entries

abbrev pub is_none : {A : Type 0} → List A → Bool
is_none [] = true
is_none (x ∷ xs) = false

abbrev pub is_kept : Entry → Bool
is_kept e = (e.1.0.tagged || is_none e.0.tag) && (e.1.0.complete || is_none e.0.members)

-- the three lists are of one length
abbrev pub are_kept : List Structure → List Standing → List Layout → Bool
are_kept all standings layouts =
    nat_eq (length all) (length standings) && (nat_eq (length all) (length layouts) && list_all is_kept (entries_of all standings layouts))

-- ---- changes

abbrev pub completed_with : List Named → Layout → KnownStructure → KnownStructure
completed_with ms layout k = record { tag = k.tag; alias = k.alias; members = Some ms; layout = layout }

abbrev pub with_alias : Option Name → KnownStructure → KnownStructure
with_alias x k = record { tag = k.tag; alias = x; members = k.members; layout = k.layout }
