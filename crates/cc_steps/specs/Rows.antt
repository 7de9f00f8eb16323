-- The events of a trace, spelled by the names that the program gives.
use Rattle.std.specs.Prelude.{ℕ, ℤ, List, [], ◌∷◌, Option, Some, None, map, slice_get, option_map}
use Rattle.cc_program.specs.declared.func.Func.{Func}
use Rattle.cc_program.specs.declared.object.Device.{Device as DeviceOf}
use Rattle.cc_program.specs.declared.program.Program.{Program}
use Rattle.cc_program.specs.declared.types.Shape.{Shape, out-Shape}
use Rattle.cc_program.specs.declared.types.Shape.TheOpen as shape
use Rattle.cc_program.specs.declared.types.CType.{CType}
use Rattle.cc_program.specs.declared.types.Sig.{Sig}
use Rattle.cc_program.specs.declared.types.Structure.{Structure}
use Rattle.cc_program.specs.declared.value.Address.{Address}
use Rattle.cc_program.specs.declared.value.Address.TheVariants as address
use Rattle.cc_program.specs.declared.value.Cell.{Cell}
use Rattle.cc_program.specs.declared.value.Cell.TheVariants as cell
use Rattle.cc_program.specs.declared.value.Part.{Part}
use Rattle.cc_program.specs.declared.value.Part.TheVariants as part
use Rattle.cc_program.specs.declared.value.Root.{Root}
use Rattle.cc_program.specs.declared.value.Root.TheVariants as root
use Rattle.cc_program.specs.declared.value.Value.{Value}
use Rattle.cc_program.specs.declared.value.Value.TheVariants as value
use Rattle.cc_eval.specs.CcSyntax.Initial.{step_into}
use Rattle.cc_eval.specs.CcSyntax.Values.{PlaceType, DevicePlace, ObjectPlace, FunctionPlace}
use Rattle.cc_steps.specs.declared.event.Event.{Event}
use Rattle.cc_steps.specs.declared.event.Event.TheVariants as event
use Rattle.cc_eval.specs.Context.{object_type}

-- a name; what the program does not have has none
abbrev pub Name : Type 0
Name = Option (List ℕ)

-- a step into an object: to the member of a name, or to an element
pub data Into : Type 0 where
  ToMember : Name → Into
  ToElement : ℕ → Into

-- a device, by its name, or by its number where it has none; an object, by its name, and for a local the name of its function
-- too, with the steps into it
pub data Spelled : Type 0 where
  Device : Name → ℕ → Spelled
  Static : Name → List Into → Spelled
  Auto : Name → Name → List Into → Spelled

-- a value: a pointer by what it names, with its index in an array of so many. Rows that are equal have equal texts; the count,
-- which a text leaves out, is compared too.
pub data SpelledValue : Type 0 where
  Number : ℤ → SpelledValue
  ToNothing : SpelledValue
  ToFunction : Name → SpelledValue
  ToObject : Spelled → ℕ → ℕ → SpelledValue

pub data Row : Type 0 where
  Reads : Spelled → SpelledValue → Row
  Writes : Spelled → SpelledValue → Row
  Enters : Name → Row

module _ (p : Program) where
  abbrev pub member_name : ℕ → Option Structure → Name
  member_name m None = None
  member_name m (Some s) = option_map (λ m. m.0) (slice_get s.members m)

  abbrev pub member_in : ℕ → shape.Shape-F Shape CType Sig → Name
  member_in m (shape.Struct s) = member_name m (slice_get p.structures s)
  member_in m shape.Void = None
  member_in m (shape.Int t) = None
  member_in m (shape.Pointer to) = None
  member_in m (shape.Array of n) = None
  member_in m (shape.Func sig) = None

  abbrev pub step_in : Part → PlaceType → Into
  step_in (part.Member m) (ObjectPlace constant volatile t) = ToMember (member_in m (out-Shape t.shape))
  step_in (part.Member m) (DevicePlace constant t) = ToMember None
  step_in (part.Member m) (FunctionPlace sig) = ToMember None
  step_in (part.Index i) a = ToElement i

  abbrev pub steps : List Part → Option PlaceType → List Into
  steps [] a = []
  steps (s ∷ path) None = []
  steps (s ∷ path) (Some a) = step_in s a ∷ steps path (step_into p.structures s a)

  abbrev pub func_name : ℕ → Name
  func_name f = option_map (λ f. f.name) (slice_get p.funcs f)

  abbrev pub local_in : ℕ → Option Func → Name
  local_in local None = None
  local_in local (Some f) = option_map (λ l. l.0) (slice_get f.locals local)

  abbrev pub object_spelled : Root → List Part → Spelled
  object_spelled (root.Static i) path = Static (option_map (λ o. o.name) (slice_get p.objects i)) (steps path (object_type p (root.Static i)))
  object_spelled (root.Auto number f local) path = Auto (local_in local (slice_get p.funcs f)) (func_name f) (steps path (object_type p (root.Auto number f local)))

  abbrev pub device_spelled : Option DeviceOf → Spelled
  device_spelled None = Device None 0
  device_spelled (Some device) = Device device.name device.number

  abbrev pub cell_spelled : Cell → Spelled
  cell_spelled (cell.Device d) = device_spelled (slice_get p.devices d)
  cell_spelled (cell.At object path) = object_spelled object path

  abbrev pub address_spelled : Address → SpelledValue
  address_spelled address.Null = ToNothing
  address_spelled (address.Func f) = ToFunction (func_name f)
  address_spelled (address.At object path index count) = ToObject (object_spelled object path) index count

  abbrev pub value_spelled : Value → SpelledValue
  value_spelled (value.Int n) = Number n
  value_spelled (value.Place a) = address_spelled a

  abbrev pub row_of : Event → Row
  row_of (event.Read at v) = Reads (cell_spelled at) (value_spelled v)
  row_of (event.Write at v) = Writes (cell_spelled at) (value_spelled v)
  row_of (event.Enter h) = Enters (func_name h)

  abbrev pub rows_of : List Event → List Row
  rows_of trace = map row_of trace
