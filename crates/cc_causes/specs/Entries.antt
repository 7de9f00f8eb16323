-- Which functions of a program are interrupt handlers: by attributes, or because the roles name them.
use Rattle.std.specs.Prelude.{ℕ, Bool, true, false, not, ◌&&◌, List, length, Option, Some, None, is_some}
use Rattle.std.specs.List.{list_any}
use Rattle.cc_definitions.specs.Definitions.{thing_at, numbers_below}
use Rattle.cc_definitions.specs.Handlers.{entry_given, has_name, may_be_handler}
use Rattle.cc_names.specs.Names.{is_among}
use Rattle.cc_program.specs.declared.func.Entry.{Entry}
use Rattle.cc_program.specs.declared.func.Entry.TheVariants as entry
use Rattle.cc_program.specs.declared.program.Roles.{Roles}
use Rattle.cc_things.specs.Things.{Thing, is_device}

abbrev pub is_in_roles : Roles → Option (List ℕ) → Bool
is_in_roles roles None = false
is_in_roles roles (Some x) = is_among x roles.handlers

abbrev pub entry_by : Option Entry → Bool → Option Entry
entry_by (Some e) listed = Some e
entry_by None true = Some entry.Listed
entry_by None false = None

-- by the name of each thing in the program
module _ (ts : List Thing) (roles : Roles) (name_of : ℕ → Option (List ℕ)) where
  -- a device is no function and no object
  abbrev pub is_listed : ℕ → Bool
  is_listed k = not (is_device (thing_at ts k)) && is_in_roles roles (name_of k)

  abbrev pub entry_at : ℕ → Option Entry
  entry_at k = entry_by (entry_given (thing_at ts k)) (is_listed k)

  abbrev pub is_bad_handler : ℕ → Bool
  is_bad_handler k = is_some (entry_at k) && not (may_be_handler (thing_at ts k))

-- a name that no function and no object has in the program
module _ (ts : List Thing) (name_of : ℕ → Option (List ℕ)) where
  abbrev pub is_named : List ℕ → ℕ → Bool
  is_named x k = not (is_device (thing_at ts k)) && has_name x (name_of k)

  abbrev pub is_nowhere : List ℕ → Bool
  is_nowhere x = not (list_any (is_named x) (numbers_below (length ts)))
