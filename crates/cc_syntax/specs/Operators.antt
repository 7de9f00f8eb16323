-- The type of each expression from those of its parts (C99 6.5). None where a rule of types is broken, as
-- they stand in a program: each conversion of integers is written out, and the pointed-to types of two
-- pointers that meet are one, outermost qualifiers aside.
use Rattle.std.specs.Prelude.{ℤ, Bool, true, false, not, ◌&&◌, ◌||◌, nat_le, List, Option, Some, None, is_some, if◌then◌else◌}
use Rattle.cc_program.specs.CcNum.declared.int_type.IntType.{IntType}
use Rattle.cc_program.specs.CcNum.declared.int_type.IntType.TheVariants as int
use Rattle.cc_program.specs.CcNum.declared.op.BinOp.{BinOp}
use Rattle.cc_program.specs.CcNum.declared.op.BinOp.TheVariants as op
use Rattle.cc_program.specs.CcNum.declared.op.UnOp.{UnOp}
use Rattle.cc_program.specs.CcNum.declared.op.UnOp.TheVariants as unary
use Rattle.cc_program.specs.CcNum.declared.target.Target.{Target}
use Rattle.cc_program.specs.CcNum.Integers.{is_value_of}
use Rattle.cc_program.specs.CcNum.Promotions.{promoted, usual_of}
use Rattle.cc_program.specs.CcNum.Results.{is_shift}
use Rattle.cc_program.specs.declared.expr.Intr.{Intr}
use Rattle.cc_program.specs.declared.expr.Intr.TheVariants as intr
use Rattle.cc_program.specs.declared.func.Func.{Func}
use Rattle.cc_program.specs.declared.types.CType.{CType}
use Rattle.cc_program.specs.declared.types.Shape.{Shape}
use Rattle.cc_program.specs.declared.types.Shape.TheOpen as shape
use Rattle.cc_program.specs.declared.types.Sig.{Sig, out-Sig}
use Rattle.cc_program.specs.declared.types.Structure.{Structure}
use Rattle.cc_syntax.specs.SameTypes.{same_int, same_sig, alike}
use Rattle.cc_syntax.specs.Types.{is_complete}
use Rattle.cc_syntax.specs.Values.{ValueType, NoValue, Integer, ToObject, ToFunction, PlaceType, pointer_to, result_value, is_scalar, is_void, point_alike, is_assignable, are_assignable, element_of}

abbrev pub when : {A : Type 0} → Bool → A → Option A
when b x = if b then Some x else None

abbrev pub is_comparison : BinOp → Bool
is_comparison op.Lt = true
is_comparison op.Le = true
is_comparison op.Gt = true
is_comparison op.Ge = true
is_comparison op.Eq = true
is_comparison op.Ne = true
is_comparison op.Add = false
is_comparison op.Sub = false
is_comparison op.Mul = false
is_comparison op.Div = false
is_comparison op.Rem = false
is_comparison op.And = false
is_comparison op.Or = false
is_comparison op.Xor = false
is_comparison op.Shl = false
is_comparison op.Shr = false

-- addition and subtraction (6.5.6)
abbrev pub is_additive : BinOp → Bool
is_additive op.Add = true
is_additive op.Sub = true
is_additive op.Mul = false
is_additive op.Div = false
is_additive op.Rem = false
is_additive op.And = false
is_additive op.Or = false
is_additive op.Xor = false
is_additive op.Shl = false
is_additive op.Shr = false
is_additive op.Lt = false
is_additive op.Le = false
is_additive op.Gt = false
is_additive op.Ge = false
is_additive op.Eq = false
is_additive op.Ne = false

-- a type that the integer promotions leave as it is (6.3.1.1, 2)
abbrev pub is_promoted : Target → IntType → Bool
is_promoted target t = same_int (promoted t target) t

-- ptrdiff_t: `int` where it is as wide as a pointer, else `long`
abbrev pub difference_type : Target → IntType
difference_type target = if nat_le target.pointer_bytes target.int_bytes then int.Int else int.Long

-- constants and nulls
abbrev pub constant_type : Target → ℤ → IntType → Option ValueType
constant_type target n t = when (is_value_of t target n) (Integer t)

abbrev pub pointer_in : Bool → shape.Shape-F Shape CType Sig → Option ValueType
pointer_in good (shape.Pointer to) = when good (pointer_to to)
pointer_in good shape.Void = None
pointer_in good (shape.Int t) = None
pointer_in good (shape.Array of n) = None
pointer_in good (shape.Struct s) = None
pointer_in good (shape.Func sig) = None

abbrev pub is_unqualified : CType → Bool
is_unqualified t = not (t.constant || t.volatile)

abbrev pub void_pointer_in : Bool → shape.Shape-F Shape CType Sig → Option ValueType
void_pointer_in plain (shape.Pointer to) = when (plain && (is_void to && is_unqualified to)) (pointer_to to)
void_pointer_in plain shape.Void = None
void_pointer_in plain (shape.Int t) = None
void_pointer_in plain (shape.Array of n) = None
void_pointer_in plain (shape.Struct s) = None
void_pointer_in plain (shape.Func sig) = None

abbrev pub first_of : {A : Type 0} → Option A → Option A → Option A
first_of None b = b
first_of (Some a) b = Some a

abbrev pub is_handler : Func → Bool
is_handler f = is_some f.entry

-- the address of a function; that of a handler is never taken
abbrev pub function_type : Option Func → Option ValueType
function_type None = None
function_type (Some f) = when (not (is_handler f)) (ToFunction f.sig)

-- integers (6.5.3.3, 6.5.5 to 6.5.12)
abbrev pub is_of : IntType → ValueType → Bool
is_of t NoValue = false
is_of t (Integer s) = same_int s t
is_of t (ToObject constant volatile to) = false
is_of t (ToFunction sig) = false

abbrev pub is_promoted_value : Target → ValueType → Bool
is_promoted_value target NoValue = false
is_promoted_value target (Integer s) = is_promoted target s
is_promoted_value target (ToObject constant volatile to) = false
is_promoted_value target (ToFunction sig) = false

abbrev pub is_integer : ValueType → Bool
is_integer NoValue = false
is_integer (Integer s) = true
is_integer (ToObject constant volatile to) = false
is_integer (ToFunction sig) = false

abbrev pub unary_result : UnOp → IntType → IntType
unary_result unary.Neg t = t
unary_result unary.Not t = t
unary_result unary.Lnot t = int.Int

abbrev pub unary_type : Target → UnOp → IntType → ValueType → Option ValueType
unary_type target o t a = when (is_promoted target t && is_of t a) (Integer (unary_result o t))

-- of a shift the second operand has a promoted type of its own (6.5.7, 3)
abbrev pub second_fits : Target → BinOp → IntType → ValueType → Bool
second_fits target o t b = if is_shift o then is_promoted_value target b else is_of t b

abbrev pub binary_result : BinOp → IntType → IntType
binary_result o t = if is_comparison o then int.Int else t

abbrev pub binary_type : Target → BinOp → IntType → ValueType → ValueType → Option ValueType
binary_type target o t a b = when (is_promoted target t && (is_of t a && second_fits target o t b)) (Integer (binary_result o t))

abbrev pub conversion_type : IntType → ValueType → Option ValueType
conversion_type t a = when (is_integer a) (Integer t)

-- pointers (6.5.4, 6.5.6, 6.5.8, 6.5.9)
abbrev pub when_assignable : Option ValueType → ValueType → Option ValueType
when_assignable None a = None
when_assignable (Some to) a = when (is_assignable to a) to

abbrev pub points_to_object : List Structure → ValueType → Bool
points_to_object structures NoValue = false
points_to_object structures (Integer t) = false
points_to_object structures (ToObject constant volatile t) = is_complete structures t
points_to_object structures (ToFunction sig) = false

abbrev pub moved_type : List Structure → ValueType → ValueType → Option ValueType
moved_type structures a i = when (points_to_object structures a && is_integer i) a

-- two pointers to one type have a difference: to a complete object type (6.5.6, 3), or to a function, where it traps
abbrev pub has_difference : List Structure → ValueType → Bool
has_difference structures (ToFunction sig) = true
has_difference structures t = points_to_object structures t

abbrev pub gap_type : List Structure → Target → ValueType → ValueType → Option ValueType
gap_type structures target a b = when (point_alike a b && has_difference structures a) (Integer (difference_type target))

abbrev pub comparison_type : BinOp → ValueType → ValueType → Option ValueType
comparison_type o a b = when (is_comparison o && point_alike a b) (Integer int.Int)

-- conditions (6.5.13 to 6.5.15); a cast to void leaves no node, so the arms of a `?:` whose value nothing uses
-- may have any types
abbrev pub logical_type : ValueType → ValueType → Option ValueType
logical_type a b = when (is_scalar a && is_scalar b) (Integer int.Int)

abbrev pub common_type : Target → ValueType → ValueType → ValueType
common_type target NoValue b = NoValue
common_type target (Integer s) NoValue = NoValue
common_type target (Integer s) (Integer t) = if same_int s t && is_promoted target s then Integer s else NoValue
common_type target (Integer s) (ToObject constant volatile t) = NoValue
common_type target (Integer s) (ToFunction sig) = NoValue
common_type target (ToObject constant volatile t) NoValue = NoValue
common_type target (ToObject constant volatile t) (Integer s) = NoValue
common_type target (ToObject constant volatile t) (ToObject constant' volatile' u) =
    if alike t u && not (is_void t) then ToObject (constant || constant') (volatile || volatile') t else NoValue
common_type target (ToObject constant volatile t) (ToFunction sig) = NoValue
common_type target (ToFunction s) NoValue = NoValue
common_type target (ToFunction s) (Integer t) = NoValue
common_type target (ToFunction s) (ToObject constant volatile t) = NoValue
common_type target (ToFunction s) (ToFunction t) = if same_sig s t then ToFunction s else NoValue

abbrev pub choice_type : Target → ValueType → ValueType → ValueType → Option ValueType
choice_type target c a b = when (is_scalar c) (common_type target a b)

-- assignments (6.5.16, 6.5.2.4, 6.5.3.1): the place's type, and the value's
abbrev pub assignment_type : ValueType → ValueType → Option ValueType
assignment_type to e = when (is_assignable to e) to

abbrev pub changes_by : Target → IntType → BinOp → IntType → ValueType → Bool
changes_by target s o t e =
    if is_shift o then same_int (promoted s target) t && is_promoted_value target e else same_int (usual_of s t target) t && is_of t e

abbrev pub change_type : List Structure → Target → BinOp → IntType → ValueType → ValueType → Option ValueType
change_type structures target o t NoValue e = None
change_type structures target o t (Integer s) e = when (not (is_comparison o) && changes_by target s o t e) (Integer s)
change_type structures target o t (ToObject constant volatile to) e = when (is_additive o && (is_complete structures to && is_of t e)) (ToObject constant volatile to)
change_type structures target o t (ToFunction sig) e = None

abbrev pub after_type : List Structure → ValueType → Option ValueType
after_type structures to = when (is_integer to || points_to_object structures to) to

-- calls (6.5.2.2)
abbrev pub call_type : ValueType → List (Option ValueType) → Option ValueType
call_type NoValue args = None
call_type (Integer t) args = None
call_type (ToObject constant volatile t) args = None
call_type (ToFunction sig) args = if are_assignable (out-Sig sig).params args then result_value (out-Sig sig).result else None

-- intrinsics: irq_save gives unsigned char, which irq_restore takes
abbrev pub intrinsic_type : Intr → Option (Option ValueType) → Option ValueType
intrinsic_type intr.Off None = Some NoValue
intrinsic_type intr.On None = Some NoValue
intrinsic_type intr.Save None = Some (Integer int.UChar)
intrinsic_type intr.Restore (Some (Some a)) = when (is_of int.UChar a) NoValue
intrinsic_type intr.Off (Some a) = None
intrinsic_type intr.On (Some a) = None
intrinsic_type intr.Save (Some a) = None
intrinsic_type intr.Restore None = None
intrinsic_type intr.Restore (Some None) = None

-- a subscript is an integer, which is not promoted (6.5.2.1)
abbrev pub subscript_type : PlaceType → ValueType → Option PlaceType
subscript_type a i = if is_integer i then element_of a else None
