-- The types of values and places and the kinds of types, as the code has them, as the definitions do.
use Rattle.cc_syntax.specs.Kinds.{Kind, IsVoid, IsScalar, IsStructure, IsArray, IsIncomplete, IsFunction}
use Rattle.cc_syntax.specs.Values.{ValueType, NoValue, Integer, ToObject, ToFunction, PlaceType, DevicePlace, ObjectPlace, FunctionPlace}
use Rattle.cc_typed.specs.declared.values.ValueType.{ValueType as CodeValue}
use Rattle.cc_typed.specs.declared.values.ValueType.TheVariants as value
use Rattle.cc_typed.specs.declared.values.PlaceType.{PlaceType as CodePlace}
use Rattle.cc_typed.specs.declared.values.PlaceType.TheVariants as place
use Rattle.cc_typed.specs.declared.kinds.Kind.{Kind as CodeKind}
use Rattle.cc_typed.specs.declared.kinds.Kind.TheVariants as kind

abbrev pub value_view : CodeValue → ValueType
value_view value.NoValue = NoValue
value_view (value.Integer t) = Integer t
value_view (value.ToObject constant volatile to) = ToObject constant volatile to.now
value_view (value.ToFunction sig) = ToFunction sig.now

abbrev pub place_view : CodePlace → PlaceType
place_view (place.Device constant t) = DevicePlace constant t
place_view (place.Object constant volatile t) = ObjectPlace constant volatile t.now
place_view (place.Function sig) = FunctionPlace sig.now

abbrev pub kind_view : CodeKind → Kind
kind_view kind.Void = IsVoid
kind_view (kind.Scalar qualified bytes) = IsScalar qualified bytes
kind_view (kind.Structure bytes) = IsStructure bytes
kind_view (kind.Array bytes) = IsArray bytes
kind_view kind.Incomplete = IsIncomplete
kind_view kind.Function = IsFunction
