-- What is known behind the structures of a program's text, where these names are declared, and behind the whole text.
use Rattle.std.specs.Prelude.{ℕ, suc, List, [], ◌∷◌, ◌++◌, map, length, take, drop, None, slice_get, unwrap_or}
use Rattle.std.specs.List.{filter}
use Rattle.cc_type.specs.CcTypedTerms.Devices.{declared_device}
use Rattle.cc_program.specs.declared.program.Program.{Program}
use Rattle.cc_type.specs.CcScopes.State.{State, Name, name_or_none, with_names}
use Rattle.cc_type.specs.CcScopes.declared.designated.Designated.{Designated}
use Rattle.cc_type.specs.CcScopes.declared.designated.Designated.TheVariants as means
use Rattle.cc_type.specs.CcScopes.declared.unit.Declared.{Declared}
use Rattle.cc_shown_declarations.specs.Order.{appearance}
use Rattle.cc_shown_declarations.specs.States.{tag_entry, known_as, completed_from}
use Rattle.cc_shown_names.specs.Names.{device_declared, function_declared, function_defined, object_declared, object_given, placed}
use Rattle.cc_type.specs.CcSyntax.Normal.{has_name, count_named}
use Rattle.cc_tree.specs.declared.at.At.{At}
use Rattle.cc_tree.specs.declared.unit.Init.{Init}
use Rattle.cc_tree.specs.declared.unit.Item.{Item}
use Rattle.cc_tree.specs.declared.unit.Item.TheVariants as item

-- each name designates what has its position
abbrev pub bound_from : ℕ → List Declared → List (Name × Designated)
bound_from i [] = []
bound_from i (d ∷ ds) = (name_or_none d.name, means.Linked i) ∷ bound_from (suc i) ds

-- where an item begins to declare
abbrev pub first_place : List (At Init) → ℕ
first_place [] = 0
first_place (i ∷ is) = i.at

abbrev pub place_in : Item → ℕ
place_in (item.Decl d) = first_place d.inits
place_in (item.Func specs d attrs body) = d.at

abbrev pub places : List (At Item) → List ℕ
places xs = map (λ x. place_in x.node) xs

-- that of the i-th
abbrev pub place_at : List ℕ → ℕ → ℕ
place_at offsets i = unwrap_or (slice_get offsets i) 0

module _ (p : Program) where
  abbrev pub unit_state : List Declared → State
  unit_state names = record {
    scopes = record { names = bound_from 0 names; tags = map (tag_entry p) (appearance p) } ∷ [];
    structures = map (known_as p (length p.structures)) (appearance p);
    completed = completed_from p 0 (take (length p.structures) p.structures);
    names = names;
    locals = [];
    unfinished = None;
  }

  -- ---- what is declared behind each kind of items; objects and functions are defined at these offsets

  abbrev pub devices_declared : List Declared
  devices_declared = map device_declared (filter has_name p.devices)

  abbrev pub functions_declared : List Declared
  functions_declared = devices_declared ++ map (function_declared p) p.funcs

  abbrev pub objects_declared : List ℕ → List Declared
  objects_declared objects = functions_declared ++ placed (object_declared p) objects p.objects

  abbrev pub objects_given : List ℕ → List Declared
  objects_given objects = functions_declared ++ placed (object_given p) objects p.objects

  abbrev pub all_defined : List ℕ → List ℕ → List Declared
  all_defined objects functions = (devices_declared ++ placed (function_defined p) functions p.funcs) ++ placed (object_given p) objects p.objects

  -- behind the definitions, which use the devices without names in their order
  abbrev pub last_state : List ℕ → List ℕ → State
  last_state objects functions = with_names (all_defined objects functions ++ map declared_device (drop (count_named p.devices) p.devices)) (unit_state (all_defined objects functions))
