-- Expressions for the codes of values in words, and for the values of codes. Constants are folded, and a conversion between equal types is
-- not written.
use Rattle.std.specs.Prelude.{ℕ, suc, ◌-◌, ◌^◌, nat_eq, ℤ, pos, Bool, true, false, List, [], ◌∷◌, drop, Option, Some, None, if◌then◌else◌}
use Rattle.std.specs.Ordering.{int_eq}
use Rattle.cc_code.specs.declared.kinds.Coding.{Coding}
use Rattle.cc_code.specs.declared.kinds.Coding.TheVariants as coding
use Rattle.cc_lower_expressions.specs.Expressions.{constant_in, conv_unless, folded_bin}
use Rattle.cc_lower_expressions.specs.Temporaries.{declared_type, is_same_type}
use Rattle.cc_program.specs.CcNum.declared.int_type.IntType.{IntType}
use Rattle.cc_program.specs.CcNum.declared.int_type.IntType.TheVariants as int
use Rattle.cc_program.specs.CcNum.declared.op.BinOp.{BinOp}
use Rattle.cc_program.specs.CcNum.declared.op.BinOp.TheVariants as op
use Rattle.cc_program.specs.CcNum.Promotions.{promoted}
use Rattle.cc_program.specs.declared.expr.Expr.{Expr, Const, Null, FuncAddr, Load, AddrOf, Move, Compare, Choose}
use Rattle.cc_program.specs.declared.expr.Place.{Place, Static, Element, Member}
use Rattle.cc_program.specs.declared.func.Func.{Func}
use Rattle.cc_program.specs.declared.program.Program.{Program}
use Rattle.cc_program.specs.declared.value.Address.{Address}
use Rattle.cc_program.specs.declared.value.Address.TheVariants as address
use Rattle.cc_program.specs.declared.value.Part.{Part}
use Rattle.cc_program.specs.declared.value.Part.TheVariants as part
use Rattle.cc_program.specs.declared.value.Root.{Root}
use Rattle.cc_program.specs.declared.value.Root.TheVariants as root
use Rattle.cc_program.specs.declared.value.Value.{Value}
use Rattle.cc_program.specs.declared.value.Value.TheVariants as value
use Rattle.cc_rewrite_codes.specs.Homes.{Code}
use Rattle.cc_operands.specs.CcSyntax.Folding.{Constant, NoConstant, Value as Number, Traps}
use Rattle.cc_operands.specs.CcSyntax.Forms.{form_of}
use Rattle.cc_operands.specs.CcSyntax.Values.{ValueType, NoValue, Integer, ToObject, ToFunction, PlaceType, pointed_to}
use Rattle.cc_state_points.specs.CcEval.Context.{has_elements}
use Rattle.cc_operands.specs.Operands.{first_with, decimal_types}

-- ---- words

-- a word, or an element of an array, of one byte or two
abbrev pub word_type : ℕ → IntType
word_type bytes = if nat_eq bytes 1 then int.UChar else int.UShort

-- so many bits
abbrev pub mask : ℕ → ℕ
mask bits = 2 ^ bits - 1

abbrev pub unsigned : ℕ → Expr
unsigned n = Const (pos n) int.UInt

abbrev pub is_zero : Constant → Bool
is_zero (Number n) = int_eq n (pos 0)
is_zero NoConstant = false
is_zero Traps = false

module _ (p : Program) (f : Func) where
  abbrev pub converted : IntType → IntType → Expr → Expr
  converted s t e = conv_unless p f declared_type is_same_type s t e

  abbrev pub worked : BinOp → IntType → Expr → Expr → Expr
  worked o t a b = folded_bin p f declared_type is_same_type o t a b

  -- a shift by 0 is left off
  abbrev pub shifted : BinOp → Expr → Expr → Expr
  shifted o e by = if is_zero (constant_in (form_of by)) then e else worked o int.UInt e by

  abbrev pub raised : Expr → Expr → Expr
  raised code by = shifted op.Shl code by

  -- the bits of a field in a word that has been read; a word that has no other needs no mask
  abbrev pub masked : Bool → ℕ → Expr → Expr
  masked true bits e = e
  masked false bits e = worked op.And int.UInt e (unsigned (mask bits))

  abbrev pub field : (bytes bits : ℕ) (alone : Bool) → Expr → Expr → Expr
  field bytes bits alone by t = masked alone bits (shifted op.Shr (converted (word_type bytes) int.UInt t) by)

  abbrev pub with_code : (bytes : ℕ) → Expr → Expr → Expr → Expr → Expr
  with_code bytes keep by t code = converted int.UInt (word_type bytes) (worked op.Or int.UInt (worked op.And int.UInt (converted (word_type bytes) int.UInt t) keep) (raised code by))

  -- where the word has no other
  abbrev pub code_alone : (bytes : ℕ) → Expr → Expr → Expr
  code_alone bytes by code = converted int.UInt (word_type bytes) (raised code by)

  -- ---- values as constant expressions

  -- a subscript in the text: a decimal constant (C99 6.4.4.1)
  abbrev pub subscript : ℕ → Expr
  subscript n = Const (pos n) (first_with p.target n decimal_types)

  abbrev pub step_in : Place → Part → Place
  step_in a (part.Member m) = Member a m
  step_in a (part.Index n) = Element a (subscript n)

  abbrev pub place_along : Place → List Part → Place
  place_along a [] = a
  place_along a (step ∷ path) = place_along (step_in a step) path

  abbrev pub points_to_elements : Option PlaceType → Root → List Part → Bool
  points_to_elements None object path = false
  points_to_elements (Some t) object path = has_elements p t object path

  -- an address in an array is that of an element; else it is that of the whole, or one past it
  abbrev pub in_array : Bool → Place → ℕ → Expr
  in_array true a index = AddrOf (Element a (subscript index))
  in_array false a index = if nat_eq index 0 then AddrOf a else Move (AddrOf a) (subscript index) false

  abbrev pub object_place : Root → Place
  object_place (root.Static i) = Static i
  object_place (root.Auto number func local) = Static 0

  abbrev pub address_constant : ValueType → Address → Expr
  address_constant t address.Null = Null (declared_type (Some t))
  address_constant t (address.Func g) = FuncAddr g
  address_constant t (address.At object path index count) = in_array (points_to_elements (pointed_to t) object path) (place_along (object_place object) path) index

  abbrev pub constant : ValueType → Value → Expr
  constant NoValue (value.Int n) = Const n int.Int
  constant (Integer t) (value.Int n) = Const n t
  constant (ToObject constant' volatile to) (value.Int n) = Const n int.Int
  constant (ToFunction sig) (value.Int n) = Const n int.Int
  constant NoValue (value.Place a) = address_constant NoValue a
  constant (Integer t) (value.Place a) = address_constant (Integer t) a
  constant (ToObject constant' volatile to) (value.Place a) = address_constant (ToObject constant' volatile to) a
  constant (ToFunction sig) (value.Place a) = address_constant (ToFunction sig) a

  -- ---- codes of values

  -- a comparison of an operand with a value: integers are compared in the promotion of their type (C99 6.3.1.1), addresses as they are
  abbrev pub compared_integer : IntType → Expr → Value → Expr
  compared_integer t e (value.Int n) = worked op.Eq (promoted t p.target) (converted t (promoted t p.target) e) (Const n (promoted t p.target))
  compared_integer t e (value.Place a) = e

  abbrev pub compared : ValueType → Expr → Value → Expr
  compared NoValue e v = e
  compared (Integer t) e v = compared_integer t e v
  compared (ToObject constant' volatile to) e v = Compare op.Eq e (constant (ToObject constant' volatile to) v)
  compared (ToFunction sig) e v = Compare op.Eq e (constant (ToFunction sig) v)

  abbrev pub chosen_by : Constant → Expr → Expr → Expr → Expr
  chosen_by NoConstant c a b = Choose c a b
  chosen_by (Number n) c a b = if int_eq n (pos 0) then b else a
  chosen_by Traps c a b = Choose c a b

  abbrev pub chosen : Expr → Expr → Expr → Expr
  chosen c a b = chosen_by (constant_in (form_of c)) c a b

  -- the position of a value among some that stand from a number on, and 0 where it is none of them
  abbrev pub position_of : ValueType → Expr → ℕ → List Value → Expr
  position_of t e k [] = Const (pos 0) int.Int
  position_of t e k (v ∷ vs) = chosen (compared t e v) (Const (pos k) int.Int) (position_of t e (suc k) vs)

  abbrev pub above : ValueType → ℤ → Expr → Expr
  above (Integer t) low e = converted (promoted t p.target) int.UInt (worked op.Sub (promoted t p.target) (converted t (promoted t p.target) e) (Const low (promoted t p.target)))
  above NoValue low e = e
  above (ToObject constant' volatile to) low e = e
  above (ToFunction sig) low e = e

  abbrev pub as_unsigned : ValueType → Expr → Expr
  as_unsigned (Integer t) e = converted t int.UInt e
  as_unsigned NoValue e = e
  as_unsigned (ToObject constant' volatile to) e = e
  as_unsigned (ToFunction sig) e = e

  abbrev pub code_by : Coding → Code → Expr → Expr
  code_by coding.Const c e = unsigned 0
  code_by coding.Direct c e = as_unsigned c.type e
  code_by (coding.Biased low) c e = above c.type low e
  code_by coding.Table c e = converted int.Int int.UInt (position_of c.type e 1 (drop 1 c.values))

  -- the code of an operand's value
  abbrev pub encoded : Code → Expr → Expr
  encoded c e = code_by c.coding c e

  -- ---- values of codes

  abbrev pub from_unsigned : ValueType → Expr → Expr
  from_unsigned (Integer t) e = converted int.UInt t e
  from_unsigned NoValue e = e
  from_unsigned (ToObject constant' volatile to) e = e
  from_unsigned (ToFunction sig) e = e

  abbrev pub from_low : ValueType → ℤ → Expr → Expr
  from_low (Integer t) low e = converted (promoted t p.target) t (worked op.Add (promoted t p.target) (converted int.UInt (promoted t p.target) e) (Const low (promoted t p.target)))
  from_low NoValue low e = e
  from_low (ToObject constant' volatile to) low e = e
  from_low (ToFunction sig) low e = e

  abbrev pub value_by : Coding → Code → Expr → Expr
  value_by coding.Const c e = e
  value_by coding.Direct c e = from_unsigned c.type e
  value_by (coding.Biased low) c e = from_low c.type low e
  value_by coding.Table c e = Load (Element (Static c.table) e)

  -- the value of a code that is an operand
  abbrev pub decoded : Code → Expr → Expr
  decoded c e = value_by c.coding c e
