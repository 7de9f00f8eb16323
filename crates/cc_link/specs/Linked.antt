-- The program that sources without a cause are.
use Rattle.std.specs.Prelude.{◌≡◌, ℕ, suc, nat_eq, List, [], ◌∷◌, map, filter_map, zip, position, unwrap_or, Option, Some, None, option_map, option_and_then, slice_get, slice_index_or}
use Rattle.cc_definitions.specs.Definitions.{thing_at, definition, devices, functions, objects, function_of}
use Rattle.cc_definitions.specs.Handlers.{is_named_main}
use Rattle.cc_causes.specs.Causes.{cause}
use Rattle.cc_causes.specs.Entries.{entry_at}
use Rattle.cc_causes.specs.declared.fault.LinkFault.{LinkFault}
use Rattle.cc_linked_names.specs.Given.{tags, name_at, local_names, reserved_names}
use Rattle.cc_program.specs.CcNum.declared.target.Target.{Target}
use Rattle.cc_program.specs.declared.func.Entry.{Entry}
use Rattle.cc_program.specs.declared.func.Func.{Func}
use Rattle.cc_program.specs.declared.object.Device.{Device}
use Rattle.cc_program.specs.declared.object.Object.{Object}
use Rattle.cc_program.specs.declared.program.Program.{Program}
use Rattle.cc_program.specs.declared.program.Roles.{Roles}
use Rattle.cc_program.specs.declared.types.Structure.{Structure}
use Rattle.cc_program.specs.declared.value.Leaf.{Leaf}
use Rattle.cc_relocation.specs.Relocated.{structure_with, device_with, object_with, func_with}
use Rattle.cc_structures.specs.Structures.{Known, Numbering, AreNumbered, numbers_of}
use Rattle.cc_things.specs.Mentions.{Mention, mentions, mentions_of}
use Rattle.cc_things.specs.Things.{Thing, things, identities, number_in}
use Rattle.cc_things.specs.declared.text.Text.{Text}
use Rattle.cc_unit.specs.declared.ids.Id.{Id}
use Rattle.cc_unit.specs.declared.ids.Id.TheVariants as id
use Rattle.cc_unit.specs.declared.ids.Ids.{Ids}
use Rattle.cc_unit.specs.declared.unit.UnitKind.{UnitKind}
use Rattle.cc_unit.specs.declared.unit.UnitKind.TheVariants as kind

-- ---- ids

-- a thing is a device, a function or an object of the program, whichever list it stands in
abbrev pub id_by : Option ℕ → Option ℕ → Option ℕ → Id
id_by (Some d) f o = id.Device d
id_by None (Some f) o = id.Func f
id_by None None (Some o) = id.Object o
id_by None None None = id.Object 0

abbrev pub id_at : List Thing → ℕ → Id
id_at ts k = id_by (position (nat_eq k) (devices ts)) (position (nat_eq k) (functions ts)) (position (nat_eq k) (objects ts))

abbrev pub no_ids : Ids
no_ids = record { structures = []; names = [] }

-- the ids of what each source names
module _ (id_of : Mention → Id) (numbering : Numbering) where
  abbrev pub ids_from : ℕ → List Text → List Ids
  ids_from text [] = []
  ids_from text (x ∷ xs) = record { structures = numbers_of numbering text; names = map id_of (mentions_of text x) } ∷ ids_from (suc text) xs

abbrev pub id_of_mention : List Text → Mention → Id
id_of_mention texts m = id_at (things texts) (number_in (identities (mentions texts)) m)

abbrev pub all_ids : List Text → Numbering → List Ids
all_ids texts numbering = ids_from (id_of_mention texts) numbering 0 texts

-- ---- what the program has

abbrev pub structure_of : Numbering → List ℕ × Known → Structure
structure_of numbering s = structure_with s.0 (numbers_of numbering s.1.text) s.1.structure.members

abbrev pub device_in : UnitKind → Option Device
device_in (kind.Device d) = Some d
device_in (kind.Object init) = None
device_in (kind.Func entry f) = None

-- a device is what its first mention says
abbrev pub device_by : Option (List ℕ) → Thing → Option Device
device_by name t = option_map (device_with name) (option_and_then (λ m. device_in m.name.kind) (slice_get t.mentions 0))

abbrev pub leaves_in : UnitKind → List Leaf
leaves_in (kind.Object init) = init
leaves_in (kind.Device d) = []
leaves_in (kind.Func entry f) = []

abbrev pub ids_in : List Ids → ℕ → Ids
ids_in ids text = slice_index_or ids text no_ids

abbrev pub object_in : List Ids → List ℕ → Mention → Object
object_in ids name m = object_with name (ids_in ids m.text) m.name.ctype (leaves_in m.name.kind)

abbrev pub object_by : List Ids → List ℕ → Thing → Option Object
object_by ids name t = option_map (object_in ids name) (definition t)

abbrev pub func_by : List Ids → List ℕ → List (List ℕ) → Option Entry → Thing → Option Func
func_by ids name names entry t = option_and_then (λ m. option_map (func_with name names entry (ids_in ids m.text)) (function_of t)) (definition t)

-- things by their numbers and the names that they have
module _ (ts : List Thing) (name_of : ℕ → Option (List ℕ)) where
  abbrev pub name_or_none : ℕ → List ℕ
  name_or_none k = unwrap_or (name_of k) []

  abbrev pub device_at : ℕ → Option Device
  device_at k = device_by (name_of k) (thing_at ts k)

  abbrev pub object_at : List Ids → ℕ → Option Object
  object_at ids k = object_by ids (name_or_none k) (thing_at ts k)

  -- a function, and the names of its locals
  abbrev pub func_at : Roles → List Ids → ℕ × List (List ℕ) → Option Func
  func_at roles ids f = func_by ids (name_or_none f.0) f.1 (entry_at ts roles name_of f.0) (thing_at ts f.0)

-- the position of the function that runs first
abbrev pub main_number : List Thing → ℕ
main_number ts = unwrap_or (position (λ k. is_named_main (thing_at ts k)) (functions ts)) 0

-- the program of these things and structures, with these names, ids, tags, and locals of each function
abbrev pub program_with : Target → Roles → List Thing → (ℕ → Option (List ℕ)) → List Ids → Numbering → List Known → List (List ℕ) → List (ℕ × List (List ℕ)) → Program
program_with target roles ts name_of ids numbering firsts tags locals = record {
  target = target;
  roles = roles;
  structures = map (structure_of numbering) (zip tags firsts);
  devices = filter_map (device_at ts name_of) (devices ts);
  objects = filter_map (object_at ts name_of ids) (objects ts);
  funcs = filter_map (func_at ts name_of roles ids) locals;
  main = main_number ts;
}

abbrev pub program : List Text → Roles → Numbering → List Known → Target → Program
program texts roles numbering firsts target =
    let ts = things texts in
    let reserved = reserved_names texts roles in
    program_with target roles ts (name_at ts reserved roles firsts) (all_ids texts numbering) numbering firsts (tags ts reserved roles firsts) (local_names ts reserved roles firsts)

abbrev pub first_cause : List Text → Roles → Numbering → List Known → Option LinkFault
first_cause texts roles numbering firsts =
    cause (things texts) roles (name_at (things texts) (reserved_names texts roles) roles firsts) numbering

-- the sources have no cause against them, and link to p
pub record Links (texts : List Text) (target : Target) (roles : Roles) (p : Program) : Type 0 where
  pub numbering : Numbering
  pub firsts : List Known
  pub numbered : AreNumbered (map (λ x. x.unit) texts) numbering firsts
  pub none : first_cause texts roles numbering firsts ≡ None
  pub is : p ≡ program texts roles numbering firsts target

-- the first cause against them
pub record Breaks (texts : List Text) (roles : Roles) (f : LinkFault) : Type 0 where
  pub numbering : Numbering
  pub firsts : List Known
  pub numbered : AreNumbered (map (λ x. x.unit) texts) numbering firsts
  pub first : first_cause texts roles numbering firsts ≡ Some f
