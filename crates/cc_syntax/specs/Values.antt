-- The types of values and of places (C99 6.3.2.1, 6.5), and what may be assigned (6.5.16.1).
use Rattle.std.specs.Prelude.{ℕ, Bool, true, false, not, ◌&&◌, ◌||◌, List, Option, Some, None, slice_get, if◌then◌else◌}
use Rattle.cc_program.specs.CcNum.declared.int_type.IntType.{IntType}
use Rattle.cc_program.specs.Qualifiers.{is_const, is_volatile}
use Rattle.cc_program.specs.declared.types.CType.{CType}
use Rattle.cc_program.specs.declared.types.Shape.{Shape, out-Shape}
use Rattle.cc_program.specs.declared.types.Shape.TheOpen as shape
use Rattle.cc_program.specs.declared.types.Sig.{Sig}
use Rattle.cc_program.specs.declared.types.Structure.{Structure}
use Rattle.cc_syntax.specs.Pairs.{all_pairs}
use Rattle.cc_syntax.specs.SameTypes.{same_int, same_sig, alike, is_void_shape}
use Rattle.cc_syntax.specs.Types.{Named}

-- the type of a value, which has no qualifiers of its own: none, an integer, a pointer to a function, or a
-- pointer to another type. Of that the two flags say whether what is pointed to is const and volatile; the
-- outermost qualifiers in its type say nothing.
pub data ValueType : Type 0 where
  NoValue : ValueType
  Integer : IntType → ValueType
  ToObject : Bool → Bool → CType → ValueType
  ToFunction : Sig → ValueType

-- the type of a place: a device, an object that is const or volatile as the flags say, or a function
pub data PlaceType : Type 0 where
  DevicePlace : Bool → IntType → PlaceType
  ObjectPlace : Bool → Bool → CType → PlaceType
  FunctionPlace : Sig → PlaceType

abbrev pub pointer_shape : CType → shape.Shape-F Shape CType Sig → ValueType
pointer_shape t (shape.Func sig) = ToFunction sig
pointer_shape t shape.Void = ToObject (is_const t) (is_volatile t) t
pointer_shape t (shape.Int i) = ToObject (is_const t) (is_volatile t) t
pointer_shape t (shape.Pointer to) = ToObject (is_const t) (is_volatile t) t
pointer_shape t (shape.Array of n) = ToObject (is_const t) (is_volatile t) t
pointer_shape t (shape.Struct s) = ToObject (is_const t) (is_volatile t) t

-- a pointer to a type
abbrev pub pointer_to : CType → ValueType
pointer_to t = pointer_shape t (out-Shape t.shape)

abbrev pub scalar_shape : shape.Shape-F Shape CType Sig → Option ValueType
scalar_shape (shape.Int t) = Some (Integer t)
scalar_shape (shape.Pointer to) = Some (pointer_to to)
scalar_shape shape.Void = None
scalar_shape (shape.Array of n) = None
scalar_shape (shape.Struct s) = None
scalar_shape (shape.Func sig) = None

-- the value of what has a scalar type; another type has none
abbrev pub scalar_value : CType → Option ValueType
scalar_value t = scalar_shape (out-Shape t.shape)

-- what a function of such a result gives
abbrev pub result_value : CType → Option ValueType
result_value t = if is_void_shape (out-Shape t.shape) then Some NoValue else scalar_value t

abbrev pub is_scalar : ValueType → Bool
is_scalar NoValue = false
is_scalar (Integer t) = true
is_scalar (ToObject constant volatile t) = true
is_scalar (ToFunction sig) = true

abbrev pub is_void : CType → Bool
is_void t = is_void_shape (out-Shape t.shape)

-- an object that is declared with a type
abbrev pub object_place : CType → PlaceType
object_place t = ObjectPlace (is_const t) (is_volatile t) t

-- what a place gives where it is read (6.3.2.1, 2)
abbrev pub read_from : PlaceType → Option ValueType
read_from (DevicePlace constant t) = Some (Integer t)
read_from (ObjectPlace constant volatile t) = scalar_value t
read_from (FunctionPlace sig) = None

-- what it takes where it is written: const ones take nothing (6.3.2.1, 1)
abbrev pub written_to : PlaceType → Option ValueType
written_to (DevicePlace constant t) = if constant then None else Some (Integer t)
written_to (ObjectPlace constant volatile t) = if constant then None else scalar_value t
written_to (FunctionPlace sig) = None

-- its address (6.5.3.2, 1); a device has none
abbrev pub address_of : PlaceType → Option ValueType
address_of (DevicePlace constant t) = None
address_of (ObjectPlace constant volatile t) = Some (ToObject constant volatile t)
address_of (FunctionPlace sig) = Some (ToFunction sig)

-- what a pointer points to (6.5.3.2, 4)
abbrev pub pointed_to : ValueType → Option PlaceType
pointed_to NoValue = None
pointed_to (Integer t) = None
pointed_to (ToObject constant volatile t) = if is_void t then None else Some (ObjectPlace constant volatile t)
pointed_to (ToFunction sig) = Some (FunctionPlace sig)

abbrev pub element_shape : Bool → Bool → shape.Shape-F Shape CType Sig → Option PlaceType
element_shape constant volatile (shape.Array of n) = Some (ObjectPlace constant volatile of)
element_shape constant volatile shape.Void = None
element_shape constant volatile (shape.Int t) = None
element_shape constant volatile (shape.Pointer to) = None
element_shape constant volatile (shape.Struct s) = None
element_shape constant volatile (shape.Func sig) = None

-- an element of an array (6.5.2.1)
abbrev pub element_of : PlaceType → Option PlaceType
element_of (DevicePlace constant t) = None
element_of (ObjectPlace constant volatile t) = element_shape constant volatile (out-Shape t.shape)
element_of (FunctionPlace sig) = None

-- a member is const or volatile where its structure is, too (6.5.2.3, 3)
abbrev pub member_at : Bool → Bool → Option Named → Option PlaceType
member_at constant volatile None = None
member_at constant volatile (Some m) = Some (ObjectPlace (constant || is_const m.1) (volatile || is_volatile m.1) m.1)

abbrev pub member_in : Bool → Bool → ℕ → Option Structure → Option PlaceType
member_in constant volatile m None = None
member_in constant volatile m (Some s) = member_at constant volatile (slice_get s.members m)

abbrev pub member_shape : List Structure → Bool → Bool → ℕ → shape.Shape-F Shape CType Sig → Option PlaceType
member_shape structures constant volatile m (shape.Struct s) = member_in constant volatile m (slice_get structures s)
member_shape structures constant volatile m shape.Void = None
member_shape structures constant volatile m (shape.Int t) = None
member_shape structures constant volatile m (shape.Pointer to) = None
member_shape structures constant volatile m (shape.Array of n) = None
member_shape structures constant volatile m (shape.Func sig) = None

abbrev pub member_of : List Structure → ℕ → PlaceType → Option PlaceType
member_of structures m (DevicePlace constant t) = None
member_of structures m (ObjectPlace constant volatile t) = member_shape structures constant volatile m (out-Shape t.shape)
member_of structures m (FunctionPlace sig) = None

-- two pointers to one type, outermost qualifiers aside
abbrev pub point_alike : ValueType → ValueType → Bool
point_alike NoValue b = false
point_alike (Integer t) b = false
point_alike (ToObject constant volatile t) NoValue = false
point_alike (ToObject constant volatile t) (Integer s) = false
point_alike (ToObject constant volatile t) (ToObject constant' volatile' u) = alike t u
point_alike (ToObject constant volatile t) (ToFunction sig) = false
point_alike (ToFunction s) NoValue = false
point_alike (ToFunction s) (Integer t) = false
point_alike (ToFunction s) (ToObject constant volatile t) = false
point_alike (ToFunction s) (ToFunction t) = same_sig s t

abbrev pub implies : Bool → Bool → Bool
implies a b = not a || b

-- a value can be assigned to what has the first type: it has that type, or is a pointer that loses no
-- qualifier (6.5.16.1, 1)
abbrev pub is_assignable : ValueType → ValueType → Bool
is_assignable NoValue from = false
is_assignable (Integer s) NoValue = false
is_assignable (Integer s) (Integer t) = same_int s t
is_assignable (Integer s) (ToObject constant volatile t) = false
is_assignable (Integer s) (ToFunction sig) = false
is_assignable (ToObject constant volatile t) NoValue = false
is_assignable (ToObject constant volatile t) (Integer s) = false
is_assignable (ToObject constant volatile t) (ToObject constant' volatile' u) = alike t u && (implies constant' constant && implies volatile' volatile)
is_assignable (ToObject constant volatile t) (ToFunction sig) = false
is_assignable (ToFunction s) NoValue = false
is_assignable (ToFunction s) (Integer t) = false
is_assignable (ToFunction s) (ToObject constant volatile t) = false
is_assignable (ToFunction s) (ToFunction t) = same_sig s t

abbrev pub is_assignable_some : Option ValueType → Option ValueType → Bool
is_assignable_some None from = false
is_assignable_some (Some to) None = false
is_assignable_some (Some to) (Some from) = is_assignable to from

-- arguments of the parameters' types (6.5.2.2, 2)
abbrev pub are_assignable : List CType → List (Option ValueType) → Bool
are_assignable params args = all_pairs (λ t v. is_assignable_some (scalar_value t) v) params args
