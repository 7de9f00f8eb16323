-- Why sources are no program: the causes, in the order in which they are looked for.
use Rattle.std.specs.Prelude.{ℕ, Bool, false, not, ◌&&◌, nat_lt, List, find, length, slice_get, Option, Some, None, option_and_then, option_map, if◌then◌else◌}
use Rattle.std.specs.List.{list_any}
use Rattle.std.specs.Option.{option_map_or, option_or}
use Rattle.cc_definitions.specs.Definitions.{thing_at, numbers_below}
use Rattle.cc_definitions.specs.Handlers.{is_named_main}
use Rattle.cc_causes.specs.Entries.{is_bad_handler, is_nowhere}
use Rattle.cc_causes.specs.declared.fault.LinkFault.{LinkFault}
use Rattle.cc_causes.specs.declared.fault.LinkFault.TheVariants as fault
use Rattle.cc_program.specs.declared.program.Roles.{Roles}
use Rattle.cc_structures.specs.Structures.{Numbering, same_types}
use Rattle.cc_things.specs.Mentions.{Mention}
use Rattle.cc_things.specs.Things.{Thing, own_name, definitions, is_defined, is_device, is_external, is_used}

-- ---- what one thing has against it

module _ (numbering : Numbering) where
  abbrev pub agree : Mention → Mention → Bool
  agree m n = same_types numbering m.text m.name.ctype n.text n.name.ctype

  -- some mention has another type than the first (C99 6.2.7, 2)
  abbrev pub disagree : List Mention → Bool
  disagree ms = option_map_or (λ m. list_any (λ n. not (agree m n)) ms) (slice_get ms 0) false

  abbrev pub types_differ : Thing → Bool
  types_differ t = is_external t && disagree t.mentions

-- tentative definitions are one a source (C99 6.9, 5 and 6.9.2, 2)
abbrev pub is_twice : Thing → Bool
is_twice t = nat_lt 1 (definitions t)

abbrev pub is_undefined : Thing → Bool
is_undefined t = is_used t && not (is_defined t) && not (is_device t)

-- the function that runs first
abbrev pub is_main : Thing → Bool
is_main t = is_named_main t && is_defined t

-- ---- the first cause that there is

-- the name of the first thing that it holds of
abbrev pub first_named : (Thing → Bool) → List Thing → Option (List ℕ)
first_named holds ts = option_and_then own_name (find holds ts)

-- what stands against things by themselves, before their names in the program are asked for
abbrev pub cause_of_things : Numbering → List Thing → Option LinkFault
cause_of_things numbering ts =
    option_or (option_map fault.TypesDiffer (first_named (types_differ numbering) ts))
    (option_or (option_map fault.Twice (first_named is_twice ts))
    (option_or (option_map fault.Undefined (first_named is_undefined ts))
    (if list_any is_main ts then None else Some fault.NoMain)))

-- a handler's name is the one that it has in the program, or in the sources where it is not there
abbrev pub handler_name : List Thing → (ℕ → Option (List ℕ)) → ℕ → Option (List ℕ)
handler_name ts name_of k = option_or (name_of k) (own_name (thing_at ts k))

module _ (ts : List Thing) (roles : Roles) (name_of : ℕ → Option (List ℕ)) where
  -- what is in the sources comes first, then names of the roles
  abbrev pub bad_handler : Option (List ℕ)
  bad_handler =
      option_or (option_and_then (handler_name ts name_of) (find (is_bad_handler ts roles name_of) (numbers_below (length ts))))
      (find (is_nowhere ts name_of) roles.handlers)

  abbrev pub cause : Numbering → Option LinkFault
  cause numbering = option_or (cause_of_things numbering ts) (option_map fault.BadHandler bad_handler)
