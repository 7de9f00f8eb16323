-- Subscripts, members, addresses and what pointers point to (C99 6.5.2.1, 6.5.2.3, 6.5.3.2).
use Rattle.std.specs.Prelude.{ℕ, Bool, false, ◌&&◌, List, Option, Some, None, is_some, position, slice_get, Ok, Err}
use Rattle.std.specs.Str.{bytes_eq}
use Rattle.cc_program.specs.declared.expr.Expr.{Expr, Move, AddrOf, FuncAddr}
use Rattle.cc_program.specs.declared.expr.Place.{Place, Element, Member, Deref}
use Rattle.cc_program.specs.declared.types.CType.{CType}
use Rattle.cc_program.specs.declared.types.Shape.{Shape, out-Shape}
use Rattle.cc_program.specs.declared.types.Shape.TheOpen as shape
use Rattle.cc_program.specs.declared.types.Sig.{Sig}
use Rattle.cc_program.specs.declared.types.Structure.{Structure}
use Rattle.cc_operands.specs.CcSyntax.Operators.{is_integer, points_to_object}
use Rattle.cc_operands.specs.CcSyntax.Values.{ValueType, ToFunction, PlaceType, DevicePlace, ObjectPlace, FunctionPlace, pointed_to, element_of, member_of, address_of}
use Rattle.cc_designators.specs.Designators.{TypedExpr, IsPlace, IsValue, IsFunction, IsIntrinsic, IsAddress}
use Rattle.cc_operands.specs.Operands.{Operand, operand, with_value}
use Rattle.cc_operands.specs.Verdicts.{Judged, must}
use Rattle.cc_operands.specs.declared.rule.Rule.{Rule}
use Rattle.cc_operands.specs.declared.rule.Rule.TheVariants as rule

-- ---- `a[i]` (6.5.2.1): of an array that is a place, or of a pointer to an object

abbrev pub element_by : Place → Expr → Option PlaceType → Judged TypedExpr
element_by a i None = Err rule.Subscript
element_by a i (Some t) = Ok (IsPlace (Element a i) t)

abbrev pub pointed_by : Expr → Option PlaceType → Judged TypedExpr
pointed_by e None = Err rule.Subscript
pointed_by e (Some t) = Ok (IsPlace (Deref e) t)

abbrev pub subscripted : List Structure → Operand → Operand → Judged TypedExpr
subscripted structures x i = with_value x (with_value i (must (is_integer i.type && points_to_object structures x.type) rule.Subscript (pointed_by (Move x.value i.value false) (pointed_to x.type))))

abbrev pub element : Place → PlaceType → Operand → Judged TypedExpr
element a t i = with_value i (must (is_integer i.type) rule.Subscript (element_by a i.value (element_of t)))

-- whether a place is an array, whose elements are places of their own
abbrev pub is_array_place : TypedExpr → Bool
is_array_place (IsPlace a t) = is_some (element_of t)
is_array_place _ = false

-- ---- `a.m` and `p->m` (6.5.2.3)

abbrev pub position_in : List ℕ → Option Structure → Option ℕ
position_in x None = None
position_in x (Some s) = position (λ m. bytes_eq x m.0) s.members

abbrev pub position_at : List Structure → List ℕ → shape.Shape-F Shape CType Sig → Option ℕ
position_at structures x (shape.Struct i) = position_in x (slice_get structures i)
position_at structures x _ = None

abbrev pub position_of : List Structure → List ℕ → PlaceType → Option ℕ
position_of structures x (ObjectPlace constant volatile t) = position_at structures x (out-Shape t.shape)
position_of structures x (DevicePlace constant t) = None
position_of structures x (FunctionPlace sig) = None

abbrev pub member_by : Rule → Place → ℕ → Option PlaceType → Judged TypedExpr
member_by broken a m None = Err broken
member_by broken a m (Some t) = Ok (IsPlace (Member a m) t)

abbrev pub member_at : List Structure → Rule → Place → PlaceType → Option ℕ → Judged TypedExpr
member_at structures broken a t None = Err broken
member_at structures broken a t (Some m) = member_by broken a m (member_of structures m t)

abbrev pub member_in : List Structure → Rule → List ℕ → Place → PlaceType → Judged TypedExpr
member_in structures broken x a t = member_at structures broken a t (position_of structures x t)

abbrev pub dot : List Structure → List ℕ → TypedExpr → Judged TypedExpr
dot structures x (IsPlace a t) = member_in structures rule.Member x a t
dot structures x (IsValue y) = with_value y (Err rule.Member)
dot structures x _ = Err rule.Member

abbrev pub arrow_to : List Structure → List ℕ → Operand → Option PlaceType → Judged TypedExpr
arrow_to structures x p None = Err rule.Arrow
arrow_to structures x p (Some t) = member_in structures rule.Arrow x (Deref p.value) t

abbrev pub arrow : List Structure → List ℕ → Operand → Judged TypedExpr
arrow structures x p = with_value p (arrow_to structures x p (pointed_to p.type))

-- ---- `&a` (6.5.3.2, 1): of a function, or of a place that is no device

abbrev pub address_at : Place → Option ValueType → Judged Operand
address_at a None = Err rule.AddressOf
address_at a (Some t) = Ok (operand (AddrOf a) t)

abbrev pub address : TypedExpr → Judged Operand
address (IsPlace a t) = address_at a (address_of t)
address (IsFunction f sig) = Ok (operand (FuncAddr f) (ToFunction sig))
address (IsValue x) = with_value x (Err rule.AddressOf)
address (IsIntrinsic i place) = Err rule.MainOrIntrinsic
address (IsAddress n t place) = Err rule.AddressOf

-- ---- `*p` (6.5.3.2, 2); a device is told apart before

abbrev pub pointed_at : Operand → Option PlaceType → Judged TypedExpr
pointed_at p None = Err rule.Indirection
pointed_at p (Some t) = Ok (IsPlace (Deref p.value) t)

abbrev pub indirection : Operand → Judged TypedExpr
indirection p = with_value p (pointed_at p (pointed_to p.type))
