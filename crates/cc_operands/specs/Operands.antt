-- Values of expressions with their types, constants (C99 6.4.4, 6.6), and conversions of integers (6.3.1).
use Rattle.std.specs.Prelude.{ℕ, ◌*◌, ℤ, pos, Bool, true, false, not, ◌&&◌, ◌||◌, nat_le, List, [], ◌∷◌, drop, Err, if◌then◌else◌}
use Rattle.std.specs.Ordering.{int_eq}
use Rattle.cc_lex.specs.declared.token.Suffix.{Suffix}
use Rattle.cc_program.specs.CcNum.declared.int_type.IntType.{IntType}
use Rattle.cc_program.specs.CcNum.declared.int_type.IntType.TheVariants as int
use Rattle.cc_program.specs.CcNum.declared.target.Target.{Target}
use Rattle.cc_program.specs.CcNum.Integers.{is_value_of, converted}
use Rattle.cc_program.specs.declared.expr.Expr.{Expr, Const, Conv, Null, Load, Compare, out-Expr}
use Rattle.cc_program.specs.declared.expr.Expr.TheOpen as one
use Rattle.cc_program.specs.declared.expr.Place.{Place}
use Rattle.cc_program.specs.CcNum.declared.op.BinOp.{BinOp}
use Rattle.cc_typed.specs.CcSyntax.Folding.{Constant, NoConstant, Value, Traps, converted_constant}
use Rattle.cc_typed.specs.CcSyntax.SameTypes.{same_int}
use Rattle.cc_typed.specs.CcSyntax.Values.{ValueType, NoValue, Integer, ToObject, ToFunction, is_void}
use Rattle.cc_operands.specs.Qualified.{type_of_value}
use Rattle.cc_operands.specs.Verdicts.{Judged}
use Rattle.cc_operands.specs.declared.rule.Rule.TheVariants as rule

-- what an expression gives, and its type; `traps` says that it is a constant expression that has no value, and
-- `structure` that it is a structure, which has a type but no value here
pub record Operand : Type 0 where
  pub value : Expr
  pub type : ValueType
  pub traps : Bool
  pub structure : Bool

-- of what is no constant expression
abbrev pub operand : Expr → ValueType → Operand
operand e t = record { value = e; type = t; traps = false; structure = false }

abbrev pub integer : ℤ → IntType → Operand
integer n t = operand (Const n t) (Integer t)

-- ---- constants

abbrev pub constant_at : one.Expr-F Expr Place → Constant
constant_at (one.Const n t) = Value n
constant_at _ = NoConstant

-- what an expression is as a constant expression: one that has a value is folded to it
abbrev pub constancy : Operand → Constant
constancy x = if x.traps then Traps else constant_at (out-Expr x.value)

-- an operation, folded where it has a value
abbrev pub folded : IntType → Constant → Expr → Operand
folded t (Value n) e = integer n t
folded t Traps e = record { value = e; type = Integer t; traps = true; structure = false }
folded t NoConstant e = operand e (Integer t)

-- the type of an integer constant: the first in its list that has the value (6.4.4.1, 5)
abbrev pub first_with : Target → ℕ → List IntType → IntType
first_with target n [] = int.ULongLong
first_with target n (t ∷ rest) = if is_value_of t target (pos n) then t else first_with target n rest

abbrev pub decimal_types : List IntType
decimal_types = int.Int ∷ int.Long ∷ int.LongLong ∷ []

abbrev pub unsigned_types : List IntType
unsigned_types = int.UInt ∷ int.ULong ∷ int.ULongLong ∷ []

abbrev pub other_types : List IntType
other_types = int.Int ∷ int.UInt ∷ int.Long ∷ int.ULong ∷ int.LongLong ∷ int.ULongLong ∷ []

abbrev pub types_by : Bool → Bool → ℕ → List IntType
types_by unsigned decimal longs = if unsigned then drop longs unsigned_types else (if decimal then drop longs decimal_types else drop (2 * longs) other_types)

abbrev pub number_type : Target → ℕ → Suffix → IntType
number_type target n suffix = first_with target n (types_by suffix.unsigned suffix.decimal suffix.longs)

-- a character has its byte's value as a char, and the type int (6.4.4.4, 10)
abbrev pub character_value : Target → ℕ → ℤ
character_value target byte = converted (pos byte) int.Char target

-- size_t: `unsigned int` where `int` is as wide as a pointer, else `unsigned long`
abbrev pub size_type : Target → IntType
size_type target = if nat_le target.pointer_bytes target.int_bytes then int.UInt else int.ULong

-- ---- conversions of an integer

-- one that is written
abbrev pub cast_to : Target → IntType → Operand → Operand
cast_to target t x = folded t (converted_constant target t (constancy x)) (Conv t x.value)

-- one that the language asks for: to the type that it has, nothing is done
abbrev pub converted_from : Target → IntType → IntType → Operand → Operand
converted_from target t s x = if same_int s t then x else cast_to target t x

abbrev pub converted_by : Target → IntType → Operand → ValueType → Operand
converted_by target t x (Integer s) = converted_from target t s x
converted_by target t x _ = x

abbrev pub converted_to : Target → IntType → Operand → Operand
converted_to target t x = converted_by target t x x.type

-- ---- pointers

abbrev pub is_pointer : ValueType → Bool
is_pointer (ToObject constant volatile t) = true
is_pointer (ToFunction sig) = true
is_pointer NoValue = false
is_pointer (Integer t) = false

abbrev pub is_nothing : ValueType → Bool
is_nothing NoValue = true
is_nothing (Integer t) = false
is_nothing (ToObject constant volatile t) = false
is_nothing (ToFunction sig) = false

abbrev pub is_to_void : ValueType → Bool
is_to_void (ToObject constant volatile t) = is_void t
is_to_void NoValue = false
is_to_void (Integer t) = false
is_to_void (ToFunction sig) = false

abbrev pub is_null_at : one.Expr-F Expr Place → Bool
is_null_at (one.Null t) = true
is_null_at _ = false

abbrev pub is_zero_constant : Constant → Bool
is_zero_constant NoConstant = false
is_zero_constant (Value n) = int_eq n (pos 0)
is_zero_constant Traps = false

-- a null pointer constant: an integer constant expression of value 0, or one cast to `void *` (6.3.2.3, 3)
abbrev pub is_null_constant : Operand → Bool
is_null_constant x = is_zero_constant (constancy x) || (is_to_void x.type && is_null_at (out-Expr x.value))

abbrev pub null_of : ValueType → Expr
null_of t = Null (type_of_value t)

-- a pointer, compared with a null
abbrev pub against_null : BinOp → Operand → Expr
against_null o x = Compare o x.value (null_of x.type)

-- a structure, which is read only member by member
abbrev pub structure_at : Place → Operand
structure_at a = record { value = Load a; type = NoValue; traps = false; structure = true }

-- a value that is not used, which is what it was as a constant expression
abbrev pub as_nothing : Operand → Operand
as_nothing x = record { value = x.value; type = NoValue; traps = x.traps; structure = false }

abbrev pub is_void_value : Operand → Bool
is_void_value x = is_nothing x.type && not x.structure

-- the value of a void expression is not used, and neither is that of a structure

abbrev pub with_value : {A : Type 0} → Operand → Judged A → Judged A
with_value x next = if is_void_value x then Err rule.VoidUsed else next

abbrev pub no_structure : {A : Type 0} → Operand → Judged A → Judged A
no_structure x next = if x.structure then Err rule.StructureValue else next
