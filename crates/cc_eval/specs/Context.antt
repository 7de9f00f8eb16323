-- Where full expressions are worked, and what their places lead to (C99 6.3.2.1, 6.5.2.1, 6.5.2.3, 6.5.3.2).
use Rattle.std.specs.Prelude.{ℕ, ℤ, Bool, true, false, List, [], ◌∷◌, ◌++◌, Option, Some, None, option_map, option_and_then, nat_lt, slice_get, if◌then◌else◌}
use Rattle.cc_program.specs.declared.func.Func.{Func}
use Rattle.cc_program.specs.declared.program.Program.{Program}
use Rattle.cc_program.specs.declared.value.Address.{Address}
use Rattle.cc_program.specs.declared.value.Address.TheVariants as address
use Rattle.cc_program.specs.declared.value.Cell.{Cell}
use Rattle.cc_program.specs.declared.value.Cell.TheVariants as cell
use Rattle.cc_program.specs.declared.value.Part.{Part}
use Rattle.cc_program.specs.declared.value.Part.TheVariants as part
use Rattle.cc_program.specs.declared.value.Root.{Root}
use Rattle.cc_program.specs.declared.value.Root.TheVariants as root
use Rattle.cc_syntax.specs.Expressions.{of_two}
use Rattle.cc_syntax.specs.Initial.{place_at, bound_of}
use Rattle.cc_syntax.specs.SameTypes.{alike}
use Rattle.cc_syntax.specs.Values.{PlaceType, DevicePlace, ObjectPlace, FunctionPlace, object_place, element_of}
use Rattle.cc_values.specs.Values.{element_at}
use Rattle.cc_eval.specs.declared.spots.Spot.{Spot}
use Rattle.cc_eval.specs.declared.spots.Spot.TheVariants as spot

-- a program, and an activation of one of its functions: its number, and the function with its id
pub record Context : Type 0 where
  pub program : Program
  pub number : ℕ
  pub id : ℕ
  pub func : Func

abbrev pub local_type : ℕ → Option Func → Option PlaceType
local_type local None = None
local_type local (Some f) = option_map (λ l. object_place l.1) (slice_get f.locals local)

-- the type of a named object
abbrev pub object_type : Program → Root → Option PlaceType
object_type p (root.Static i) = option_map (λ o. object_place o.ctype) (slice_get p.objects i)
object_type p (root.Auto number func local) = local_type local (slice_get p.funcs func)

abbrev pub are_alike : Option PlaceType → PlaceType → Bool
are_alike None u = false
are_alike (Some (DevicePlace constant t)) u = false
are_alike (Some (FunctionPlace sig)) u = false
are_alike (Some (ObjectPlace constant volatile t)) (DevicePlace constant' u) = false
are_alike (Some (ObjectPlace constant volatile t)) (FunctionPlace sig) = false
are_alike (Some (ObjectPlace constant volatile t)) (ObjectPlace constant' volatile' u) = alike t u

-- whether the elements of what a path leads to have this type
abbrev pub has_elements : Program → PlaceType → Root → List Part → Bool
has_elements p t object path = are_alike (option_and_then element_of (option_and_then (place_at p.structures path) (object_type p object))) t

abbrev pub path_to : Bool → List Part → ℕ → List Part
path_to is_element path index = if is_element then path ++ part.Index index ∷ [] else path

-- the object of a type that an address names: an element of the array to which the path leads, or what it leads to itself,
-- as an array of one (6.5.6, 7); none where the address is one past
abbrev pub named_by : Program → PlaceType → Address → Option (Root × List Part)
named_by p t address.Null = None
named_by p t (address.Func f) = None
named_by p t (address.At object path index count) =
    if nat_lt index count then Some (object, path_to (has_elements p t object path) path index) else None

-- the object to which a place of a type leads
abbrev pub designated : Program → PlaceType → Spot → Option (Root × List Part)
designated p t (spot.Device d) = None
designated p t (spot.Object object path) = Some (object, path)
designated p t (spot.Address a) = named_by p t a

abbrev pub cell_of : Root × List Part → Cell
cell_of o = cell.At o.0 o.1

-- the cell of a scalar type to which a place leads
abbrev pub cell_at : Program → PlaceType → Spot → Option Cell
cell_at p t (spot.Device d) = Some (cell.Device d)
cell_at p t (spot.Object object path) = Some (cell.At object path)
cell_at p t (spot.Address a) = option_map cell_of (named_by p t a)

abbrev pub reached : Program → Option PlaceType → Option Spot → Option Cell
reached p t s = of_two t s (cell_at p)

-- an element of the array to which a place leads, or one past the last of them
abbrev pub element_in : Option ℕ → ℤ → Root × List Part → Option Spot
element_in None i o = None
element_in (Some count) i o = option_map spot.Address (element_at o.0 o.1 i count)

abbrev pub element : Program → ℤ → PlaceType → Spot → Option Spot
element p i t s = option_and_then (element_in (bound_of t) i) (designated p t s)

-- a member of the structure to which a place leads
abbrev pub member : Program → ℕ → PlaceType → Spot → Option Spot
member p m t s = option_map (λ o. spot.Object o.0 (o.1 ++ part.Member m ∷ [])) (designated p t s)

-- a pointer to a place
abbrev pub address_at : Spot → Option Address
address_at (spot.Device d) = None
address_at (spot.Object object path) = Some (address.At object path 0 1)
address_at (spot.Address a) = Some a

-- whether an access through a place is an event (6.7.3, 6)
abbrev pub is_seen : Option PlaceType → Bool
is_seen None = false
is_seen (Some (DevicePlace constant t)) = true
is_seen (Some (ObjectPlace constant volatile t)) = volatile
is_seen (Some (FunctionPlace sig)) = false
