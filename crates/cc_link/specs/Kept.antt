-- What the code keeps of the sources: ids of things by their numbers, and all that is gathered.
use Rattle.std.specs.Prelude.{◌≡◌, ℕ, List, map, Option, None, slice_index_or}
use Rattle.cc_definitions.specs.Definitions.{devices as devices_of, functions as functions_of, objects as objects_of}
use Rattle.cc_link.specs.Linked.{id_at, id_by}
use Rattle.cc_link.specs.declared.gathered.Gathered.{Gathered}
use Rattle.cc_linked_names.specs.Given.{given_name, local_names, name_at, reserved_names, tags as tags_of}
use Rattle.cc_program.specs.declared.program.Roles.{Roles}
use Rattle.cc_structures.specs.Structures.{AreNumbered}
use Rattle.cc_structures.specs.View.{knowns_of}
use Rattle.cc_things.specs.Mentions.{mentions}
use Rattle.cc_things.specs.Things.{numbers_in, things as things_of}
use Rattle.cc_things.specs.View.{thing_view}
use Rattle.cc_things.specs.declared.text.Text.{Text}
use Rattle.cc_unit.specs.declared.ids.Id.{Id}
use Rattle.cc_unit.specs.declared.ids.Id.TheVariants as id

abbrev pub id_or_none : List Id → ℕ → Id
id_or_none table k = slice_index_or table k (id.Object 0)

-- by the positions that are told for its number
abbrev pub id_told : List (Option ℕ) → List (Option ℕ) → List (Option ℕ) → ℕ → Id
id_told devices functions objects k = id_by (slice_index_or devices k None) (slice_index_or functions k None) (slice_index_or objects k None)

-- the things and the structures of the sources, with their ids and names
pub record AreGathered (texts : List Text) (roles : Roles) (g : Gathered) : Type 0 where
  pub things : map thing_view g.things.things.items ≡ things_of texts
  pub numbers : g.things.numbers.items ≡ numbers_in (mentions texts)
  pub numbered : AreNumbered (map (λ x. x.unit) texts) g.structures.numbers.items (knowns_of g.structures.firsts.items)
  pub devices : g.table.devices.items ≡ devices_of (things_of texts)
  pub functions : g.table.functions.items ≡ functions_of (things_of texts)
  pub objects : g.table.objects.items ≡ objects_of (things_of texts)
  pub ids : (k : ℕ) → id_or_none g.table.ids.items k ≡ id_at (things_of texts) k
  pub names : (k : ℕ) → given_name g.given k ≡ name_at (things_of texts) (reserved_names texts roles) roles (knowns_of g.structures.firsts.items) k
  pub tags : g.given.tags.items ≡ tags_of (things_of texts) (reserved_names texts roles) roles (knowns_of g.structures.firsts.items)
  pub locals : g.given.locals.items ≡ local_names (things_of texts) (reserved_names texts roles) roles (knowns_of g.structures.firsts.items)
