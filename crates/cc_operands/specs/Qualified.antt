-- Qualifiers stand at a type; those of an array at its innermost element (C99 6.7.3, 8).
use Rattle.std.specs.Prelude.{Bool, true, false, ◌||◌, Option, Some, None, if◌then◌else◌}
use Rattle.cc_program.specs.declared.types.CType.{CType, fold-CType}
use Rattle.cc_program.specs.declared.types.Shape.{Shape, Void, Int, Pointer, Array, Func, out-Shape}
use Rattle.cc_program.specs.declared.types.Shape.TheOpen as shape
use Rattle.cc_program.specs.declared.types.Sig.{Sig}
use Rattle.cc_typed.specs.CcSyntax.SameTypes.{is_func_shape}
use Rattle.cc_typed.specs.CcSyntax.Values.{ValueType, NoValue, Integer, ToObject, ToFunction}

-- a type without qualifiers
abbrev pub plain : Shape → CType
plain shape = record { constant = false; volatile = false; shape = shape }

abbrev pub unqualified : CType → CType
unqualified t = plain t.shape

abbrev pub is_function_type : CType → Bool
is_function_type t = is_func_shape (λ sig. true) (out-Shape t.shape)

-- a shape with its element changed, where it is an array's
abbrev pub ShapeChange : Type 0
ShapeChange = shape.Shape-F Shape CType Sig → Option Shape

abbrev pub unchanged : ShapeChange
unchanged s = None

abbrev pub element_changed : (CType → CType) → ShapeChange
element_changed of (shape.Array t n) = Some (Array (of t) n)
element_changed of _ = None

module _ (change : CType → CType) where
  abbrev pub shape_change : shape.Shape-F ShapeChange (CType → CType) (Unit {0}) → ShapeChange
  shape_change (shape.Array of n) = element_changed of
  shape_change _ = unchanged

  abbrev pub with_shape : CType → Option Shape → CType
  with_shape t None = change t
  with_shape t (Some s) = record { constant = t.constant; volatile = t.volatile; shape = s }

  abbrev pub type_change : shape.CType-F ShapeChange (CType → CType) (Unit {0}) → CType → CType
  type_change t u = with_shape u (t.shape (out-Shape u.shape))

  -- a type with its innermost element changed
  unfoldable pub at_element : CType → CType
  at_element t = fold-CType ShapeChange (CType → CType) (Unit {0}) shape_change type_change (λ s. tt) t t

-- with further qualifiers (6.7.3, 4); at a function's type they say nothing, which 6.7.3, 8 leaves open
abbrev pub further : Bool → Bool → CType → CType
further constant volatile e = if is_function_type e then e else record { constant = e.constant || constant; volatile = e.volatile || volatile; shape = e.shape }

abbrev pub qualified_by : Bool → Bool → CType → CType
qualified_by constant volatile t = at_element (further constant volatile) t

-- with these qualifiers and no others
abbrev pub instead : Bool → Bool → CType → CType
instead constant volatile e = record { constant = constant; volatile = volatile; shape = e.shape }

abbrev pub qualified_as : Bool → Bool → CType → CType
qualified_as constant volatile t = at_element (instead constant volatile) t

-- an automatic object may be written once, by its initialiser: so in a program it is not const
abbrev pub no_const : CType → CType
no_const e = record { constant = false; volatile = e.volatile; shape = e.shape }

abbrev pub without_const : CType → CType
without_const t = at_element no_const t

-- the type of a value (6.3.2.1, 2)
abbrev pub type_of_value : ValueType → CType
type_of_value NoValue = plain Void
type_of_value (Integer t) = plain (Int t)
type_of_value (ToObject constant volatile t) = plain (Pointer (qualified_as constant volatile t))
type_of_value (ToFunction sig) = plain (Pointer (plain (Func sig)))
