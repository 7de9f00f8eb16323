-- What a program has of the things of its sources, and in which order. A thing is named by its number, in order of
-- first appearance.
use Rattle.std.specs.Prelude.{ℕ, zero, suc, Bool, true, false, not, ◌&&◌, List, [], ◌∷◌, ◌++◌, filter, find, length, Option, None, slice_index_or, option_and_then, option_map, unwrap_or, is_some}
use Rattle.std.specs.Option.{is_none, option_map_or}
use Rattle.cc_order.specs.Order.{in_order}
use Rattle.cc_order.specs.Places.{stands_before}
use Rattle.cc_order.specs.declared.place.Place.{Place}
use Rattle.cc_program.specs.declared.func.Func.{Func}
use Rattle.cc_typed.specs.CcSyntax.SameTypes.{same_flag}
use Rattle.cc_things.specs.Mentions.{Mention}
use Rattle.cc_things.specs.Things.{Thing, is_definition, is_device, is_external, is_func_kind, is_there, own_name}
use Rattle.cc_things.specs.View.{no_thing, thing_view}
use Rattle.cc_things.specs.declared.thing.Thing.{Thing as ThingOf}
use Rattle.cc_unit.specs.declared.unit.UnitKind.{UnitKind}
use Rattle.cc_unit.specs.declared.unit.UnitKind.TheVariants as kind

abbrev pub thing_at : List Thing → ℕ → Thing
thing_at ts k = slice_index_or ts k no_thing

-- a thing of the code, or one without mentions
abbrev pub thing_or_none : Option ThingOf → Thing
thing_or_none t = unwrap_or (option_map thing_view t) no_thing

abbrev pub numbers_below : ℕ → List ℕ
numbers_below zero = []
numbers_below (suc n) = numbers_below n ++ n ∷ []

-- the numbers of the things that pass a test, in order of first appearance
abbrev pub numbers_of : (Thing → Bool) → List Thing → List ℕ
numbers_of passes ts = filter (λ k. passes (thing_at ts k)) (numbers_below (length ts))

-- ---- definitions, in order of the text

-- the mention that defines a thing, where it has one definition
abbrev pub definition : Thing → Option Mention
definition t = find is_definition t.mentions

abbrev pub has_definition : Thing → Bool
has_definition t = is_some (definition t)

abbrev pub is_function : Thing → Bool
is_function t = option_map_or (λ m. is_func_kind m.name.kind) (definition t) false

abbrev pub func_in : UnitKind → Option Func
func_in (kind.Func entry f) = f
func_in (kind.Object init) = None
func_in (kind.Device d) = None

-- the function itself, of what is defined as one
abbrev pub function_of : Thing → Option Func
function_of t = option_and_then (λ m. func_in m.name.kind) (definition t)

-- where it is defined: in which source, and at which offset
abbrev pub source_of : Thing → ℕ
source_of t = option_map_or (λ m. m.text) (definition t) 0

abbrev pub offset_of : Thing → ℕ
offset_of t = unwrap_or (option_and_then (λ m. m.name.first) (definition t)) 0

abbrev pub place_of : ℕ → Mention → Place
place_of k m = record { source = m.text; offset = unwrap_or m.name.first 0; number = k }

module _ (ts : List Thing) where
  abbrev pub place_at : ℕ → Place
  place_at k = record { source = source_of (thing_at ts k); offset = offset_of (thing_at ts k); number = k }

  abbrev pub is_defined_before : ℕ → ℕ → Bool
  is_defined_before j k = stands_before (place_at j) (place_at k)

  -- all that is defined; a tentative definition counts (C99 6.9.2)
  abbrev pub defined : List ℕ
  defined = in_order is_defined_before (numbers_of has_definition ts)

  -- functions and objects are in order of definition
  abbrev pub functions : List ℕ
  functions = filter (λ k. is_function (thing_at ts k)) defined

  abbrev pub objects : List ℕ
  objects = filter (λ k. not (is_function (thing_at ts k))) defined

  -- devices are in order of first appearance
  abbrev pub devices : List ℕ
  devices = numbers_of is_device ts

-- ---- what has a name in the program

-- a device at an address has none
abbrev pub is_nameless : Thing → Bool
is_nameless t = is_device t && is_none (own_name t)

abbrev pub has_a_name : Thing → Bool
has_a_name t = is_there t && not (is_nameless t)

abbrev pub is_named_by : Bool → Thing → Bool
is_named_by external t = has_a_name t && same_flag (is_external t) external

-- names are given in this order: to what has an external name, and then to the others (C99 6.2.2)
abbrev pub named : List Thing → List ℕ
named ts = numbers_of (is_named_by true) ts ++ numbers_of (is_named_by false) ts
