-- Types that are one but for qualifiers which the first may lack: the outermost ones at an object, and at what is pointed to
-- (C99 6.7.3).
use Rattle.std.specs.Prelude.{◌≡◌, ℕ, Bool, true, List, Some, slice_get}
use Rattle.cc_program.specs.CcNum.declared.int_type.IntType.{IntType}
use Rattle.cc_program.specs.Qualifiers.{is_const, is_volatile}
use Rattle.cc_program.specs.declared.types.CType.{CType}
use Rattle.cc_program.specs.declared.types.Sig.{Sig}
use Rattle.cc_operands.specs.CcSyntax.SameTypes.{alike}
use Rattle.cc_operands.specs.CcSyntax.Types.{Named}
use Rattle.cc_operands.specs.CcSyntax.Values.{ValueType, NoValue, Integer, ToObject, ToFunction, PlaceType, DevicePlace, ObjectPlace, FunctionPlace, implies, scalar_value}

-- of values; what has none may have one then, as nothing reads it
pub data Reduced : ValueType → ValueType → Type 0 where
  Unused : (u : ValueType) → Reduced u NoValue
  Integers : (i : IntType) → Reduced (Integer i) (Integer i)
  Pointers : (c v : Bool) (t : CType) (c' v' : Bool) (u : CType) → alike t u ≡ true → implies c c' ≡ true → implies v v' ≡ true → Reduced (ToObject c v t) (ToObject c' v' u)
  Functions : (s : Sig) → Reduced (ToFunction s) (ToFunction s)

-- of places; a device may be an object then, of the same integer type
pub data ReducedPlace : PlaceType → PlaceType → Type 0 where
  Devices : (c : Bool) (i : IntType) → ReducedPlace (DevicePlace c i) (DevicePlace c i)
  Defined : (c v : Bool) (t : CType) (c' : Bool) (i : IntType) → scalar_value t ≡ Some (Integer i) → implies c c' ≡ true → ReducedPlace (ObjectPlace c v t) (DevicePlace c' i)
  Objects : (c v : Bool) (t : CType) (c' v' : Bool) (u : CType) → alike t u ≡ true → implies c c' ≡ true → implies v v' ≡ true → ReducedPlace (ObjectPlace c v t) (ObjectPlace c' v' u)
  FunctionPlaces : (s : Sig) → ReducedPlace (FunctionPlace s) (FunctionPlace s)

-- of objects
pub record ReducedType (t u : CType) : Type 0 where
  pub one : alike t u ≡ true
  pub constant : implies (is_const t) (is_const u) ≡ true
  pub volatile : implies (is_volatile t) (is_volatile u) ≡ true

-- the locals of a function, and those that are declared: each at its place, with its type but for qualifiers
abbrev pub ReducedLocals : List Named → List Named → Type 0
ReducedLocals locals declared = (r : ℕ) (d : Named) → slice_get declared r ≡ Some d → (l : Named) × (slice_get locals r ≡ Some l) × ReducedType l.1 d.1
