-- Sound units: what one source gives to a program is what a sound program has, whatever it is linked to (C99 6.9).
use Rattle.std.specs.Prelude.{◌≡◌, ℕ, Bool, true, false, not, ◌&&◌, ◌||◌, nat_eq, nat_lt, List, [], length, drop, Option, Some, None, option_and_then, slice_get, is_some, unwrap_or}
use Rattle.std.specs.List.{All, list_all}
use Rattle.std.specs.Str.{bytes_eq}
use Rattle.cc_relocated_units.specs.Linked.{structures_of, AreStanding}
use Rattle.cc_program.specs.CcNum.declared.target.Target.{Target}
use Rattle.cc_operands.specs.CcSyntax.Views.{View, kind_in}
use Rattle.cc_operands.specs.CcSyntax.Expressions.{type_of}
use Rattle.cc_program.specs.declared.func.Entry.{Entry}
use Rattle.cc_program.specs.declared.func.Entry.TheVariants as entry
use Rattle.cc_program.specs.declared.func.Func.{Func}
use Rattle.cc_program.specs.declared.object.Device.{Device}
use Rattle.cc_program.specs.declared.types.CType.{CType}
use Rattle.cc_program.specs.declared.types.Shape.{Shape, out-Shape}
use Rattle.cc_program.specs.declared.types.Shape.TheOpen as shape
use Rattle.cc_program.specs.declared.types.Sig.{Sig, out-Sig}
use Rattle.cc_program.specs.declared.value.Leaf.{Leaf}
use Rattle.cc_operands.specs.CcSyntax.Kinds.{is_result, is_plain_scalar, is_object_type, extent_in}
use Rattle.cc_operands.specs.CcSyntax.Names.{local_names}
use Rattle.cc_operands.specs.CcSyntax.Sound.{have_ids, is_device, is_automatic, are_parameters, is_plain_int, is_plain_void, main_name}
use Rattle.cc_operands.specs.CcSyntax.Types.{Named}
use Rattle.cc_operands.specs.CcSyntax.Values.{ValueType, ToFunction, PlaceType, DevicePlace, object_place}
use Rattle.cc_things.specs.Things.{is_device_kind, is_external_linkage}
use Rattle.cc_unit.specs.declared.unit.TypedUnit.{TypedUnit}
use Rattle.cc_unit.specs.declared.unit.UnitKind.{UnitKind}
use Rattle.cc_unit.specs.declared.unit.UnitKind.TheVariants as kind
use Rattle.cc_unit.specs.declared.unit.UnitName.{UnitName}
use Rattle.cc_unit.specs.declared.unit.UnitStructure.{UnitStructure}
use Rattle.cc_program.specs.CcWords.Names.{is_name}
use Rattle.cc_operands.specs.CcSyntax.Initial.{IsInitial}
use Rattle.cc_operands.specs.CcSyntax.Statements.{is_sound_body}

-- ---- the view that a unit is: no function is a handler yet

abbrev pub static_as : CType → UnitKind → Option PlaceType
static_as t (kind.Object init) = Some (object_place t)
static_as t (kind.Device d) = None
static_as t (kind.Func entry f) = None

abbrev pub device_as : UnitKind → Option PlaceType
device_as (kind.Device d) = Some (DevicePlace d.constant d.int)
device_as (kind.Object init) = None
device_as (kind.Func entry f) = None

abbrev pub function_shape : shape.Shape-F Shape CType Sig → Option ValueType
function_shape (shape.Func sig) = Some (ToFunction sig)
function_shape shape.Void = None
function_shape (shape.Int t) = None
function_shape (shape.Pointer to) = None
function_shape (shape.Array of n) = None
function_shape (shape.Struct s) = None

abbrev pub function_as : CType → UnitKind → Option ValueType
function_as t (kind.Func entry f) = function_shape (out-Shape t.shape)
function_as t (kind.Object init) = None
function_as t (kind.Device d) = None

abbrev pub unit_view : Target → TypedUnit → View
unit_view target u = record {
  target = target;
  structures = structures_of u;
  extents = extent_in (structures_of u) target;
  statics = λ i. option_and_then (λ n. static_as n.ctype n.kind) (slice_get u.names i);
  devices = λ i. option_and_then (λ n. device_as n.kind) (slice_get u.names i);
  functions = λ i. option_and_then (λ n. function_as n.ctype n.kind) (slice_get u.names i);
}

-- ---- what it names

-- `int main(void)` or `void main(void)` (5.1.2.2.1)
abbrev pub is_main_sig : Sig → Bool
is_main_sig sig = nat_eq (length (out-Sig sig).params) 0 && (is_plain_int (out-Sig sig).result || is_plain_void (out-Sig sig).result)

abbrev pub is_main_name : Option (List ℕ) → Bool
is_main_name None = false
is_main_name (Some x) = bytes_eq x main_name

-- attributes alone make a function a handler; that roles list it says the program
abbrev pub is_attributed : Option Entry → Bool
is_attributed None = true
is_attributed (Some entry.Signal) = true
is_attributed (Some entry.Interrupt) = true
is_attributed (Some entry.Listed) = false

-- the type of a device: a volatile integer
abbrev pub is_integer_shape : shape.Shape-F Shape CType Sig → Bool
is_integer_shape (shape.Int t) = true
is_integer_shape shape.Void = false
is_integer_shape (shape.Pointer to) = false
is_integer_shape (shape.Array of n) = false
is_integer_shape (shape.Struct s) = false
is_integer_shape (shape.Func sig) = false

abbrev pub is_register_type : CType → Bool
is_register_type t = t.volatile && is_integer_shape (out-Shape t.shape)

module _ (v : View) where
  -- a function with its body
  pub record IsSoundFunction (sig : Sig) (f : Func) : Type 0 where
    pub same : f.sig ≡ sig
    pub result : is_result (kind_in v (out-Sig sig).result) ≡ true
    pub parameters : list_all (λ t. is_plain_scalar (kind_in v t)) (out-Sig sig).params ≡ true
    pub count : nat_eq f.params (length (out-Sig sig).params) ≡ true
    pub first : are_parameters (out-Sig sig).params f.locals ≡ true
    pub locals : list_all (λ (l : Named). is_object_type (kind_in v l.1)) f.locals ≡ true
    pub automatic : list_all is_automatic (drop f.params f.locals) ≡ true
    pub body : is_sound_body v.target (type_of v f.locals) (out-Sig sig).result f.body ≡ true

  -- one that another source defines has no type that a device has
  pub record IsSoundObject (n : UnitName) (init : List Leaf) : Type 0 where
    pub object : is_object_type (kind_in v n.ctype) ≡ true
    pub initial : IsInitial v n.ctype init
    pub here : is_register_type n.ctype ≡ true → nat_lt 0 n.count ≡ true

  -- another source may define it, with this type
  pub record IsSoundDevice (n : UnitName) (d : Device) : Type 0 where
    pub fits : is_device v.target d ≡ true
    pub named : d.name ≡ n.name
    pub int : out-Shape n.ctype.shape ≡ shape.Int d.int
    pub constant : n.ctype.constant ≡ d.constant
    pub volatile : n.ctype.volatile ≡ true

  abbrev pub HasSoundBody : Sig → Option Func → Type 0
  HasSoundBody sig None = Unit {0}
  HasSoundBody sig (Some f) = IsSoundFunction sig f

  pub record IsSoundFunctionName (n : UnitName) (by : Option Entry) (f : Option Func) : Type 0 where
    pub sig : Sig
    pub typed : out-Shape n.ctype.shape ≡ shape.Func sig
    pub named : is_some n.name ≡ true
    pub entry : is_attributed by ≡ true
    pub main : is_main_name n.name ≡ true → is_main_sig sig ≡ true
    -- it is defined where it has a body
    pub defined : nat_lt 0 n.count ≡ is_some f
    pub body : HasSoundBody sig f

  abbrev pub IsSoundKind : UnitName → UnitKind → Type 0
  IsSoundKind n (kind.Object init) = IsSoundObject n init
  IsSoundKind n (kind.Device d) = IsSoundDevice n d
  IsSoundKind n (kind.Func by f) = IsSoundFunctionName n by f

  abbrev pub IsSoundName : UnitName → Type 0
  IsSoundName n = IsSoundKind n n.kind

-- what has external linkage has a name; what has none is defined where it is no device (6.2.2, 6.4.5)
pub record IsWellNamed (n : UnitName) : Type 0 where
  pub external : is_external_linkage n.linkage ≡ true → is_some n.name ≡ true
  pub nameless : is_some n.name ≡ false → nat_lt 0 n.count ≡ not (is_device_kind n.kind)

pub record IsSoundUnit (target : Target) (u : TypedUnit) : Type 0 where
  -- what a structure contains comes before it; members have complete object types and names of their own
  pub structures : AreStanding target u
  pub names : All (IsSoundName (unit_view target u)) u.names
  pub named : All IsWellNamed u.names

-- ---- what each unit of a text has: names are names, and there are fewer than 2 ^ 32 of them in each space

abbrev pub may_name : Option (List ℕ) → Bool
may_name None = true
may_name (Some x) = is_name x

abbrev pub are_few_names : List Named → Bool
are_few_names ns = have_ids (length ns) && list_all is_name (local_names ns)

abbrev pub has_few_locals : UnitKind → Bool
has_few_locals (kind.Func by (Some f)) = are_few_names f.locals
has_few_locals (kind.Func by None) = true
has_few_locals (kind.Object init) = true
has_few_locals (kind.Device d) = true

pub record IsOfText (u : TypedUnit) : Type 0 where
  pub tags : list_all (λ (s : UnitStructure). may_name s.tag && may_name s.alias) u.structures ≡ true
  pub members : list_all (λ (s : UnitStructure). are_few_names (unwrap_or s.members [])) u.structures ≡ true
  pub names : list_all (λ (n : UnitName). may_name n.name) u.names ≡ true
  pub locals : list_all (λ (n : UnitName). has_few_locals n.kind) u.names ≡ true
