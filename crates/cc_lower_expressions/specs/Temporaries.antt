-- The types that temporaries are declared with, and when two values are of one type.
use Rattle.std.specs.Prelude.{Bool, true, false, ◌&&◌, Option, Some, None}
use Rattle.cc_program.specs.CcNum.declared.int_type.IntType.TheVariants as int
use Rattle.cc_operands.specs.Qualified.{plain, type_of_value}
use Rattle.cc_program.specs.declared.types.CType.{CType}
use Rattle.cc_program.specs.declared.types.Shape.{Int}
use Rattle.cc_eval.specs.CcSyntax.SameTypes.{same_flag, same_int, same_sig, alike}
use Rattle.cc_eval.specs.CcSyntax.Values.{ValueType, NoValue, Integer, ToObject, ToFunction}

-- without qualifiers; what a pointer points to is const and volatile as its flags say. No temporary has a type other than a scalar.
abbrev pub declared_type : Option ValueType → CType
declared_type None = plain (Int int.Int)
declared_type (Some NoValue) = plain (Int int.Int)
declared_type (Some (Integer t)) = type_of_value (Integer t)
declared_type (Some (ToObject constant volatile t)) = type_of_value (ToObject constant volatile t)
declared_type (Some (ToFunction sig)) = type_of_value (ToFunction sig)

abbrev pub is_same_value : ValueType → ValueType → Bool
is_same_value NoValue NoValue = true
is_same_value NoValue (Integer t) = false
is_same_value NoValue (ToObject constant volatile t) = false
is_same_value NoValue (ToFunction sig) = false
is_same_value (Integer s) NoValue = false
is_same_value (Integer s) (Integer t) = same_int s t
is_same_value (Integer s) (ToObject constant volatile t) = false
is_same_value (Integer s) (ToFunction sig) = false
is_same_value (ToObject constant volatile t) NoValue = false
is_same_value (ToObject constant volatile t) (Integer s) = false
is_same_value (ToObject constant volatile t) (ToObject constant' volatile' u) = same_flag constant constant' && (same_flag volatile volatile' && alike t u)
is_same_value (ToObject constant volatile t) (ToFunction sig) = false
is_same_value (ToFunction s) NoValue = false
is_same_value (ToFunction s) (Integer t) = false
is_same_value (ToFunction s) (ToObject constant volatile t) = false
is_same_value (ToFunction s) (ToFunction t) = same_sig s t

abbrev pub is_same_type : Option ValueType → Option ValueType → Bool
is_same_type None None = true
is_same_type None (Some u) = false
is_same_type (Some t) None = false
is_same_type (Some t) (Some u) = is_same_value t u
