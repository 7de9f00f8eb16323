-- What is typed as it says: an expression or a place, and the type that stands beside it (C99 6.5).
use Rattle.std.specs.Prelude.{◌≡◌, ℕ, Bool, true, false, not, ◌||◌, List, length, Option, Some, None, slice_get}
use Rattle.cc_operands.specs.Operands.{Operand, is_nothing, structure_at}
use Rattle.cc_designators.specs.Designators.{TypedExpr, IsPlace, IsValue, IsFunction, IsIntrinsic, IsAddress}
use Rattle.cc_program.specs.declared.expr.Expr.{Expr, FuncAddr}
use Rattle.cc_program.specs.declared.expr.Place.{Place}
use Rattle.cc_program.specs.declared.types.CType.{CType}
use Rattle.cc_program.specs.declared.types.Shape.{out-Shape}
use Rattle.cc_program.specs.declared.types.Shape.TheOpen as shape
use Rattle.cc_program.specs.declared.types.Structure.{Structure as Content}
use Rattle.cc_operands.specs.CcSyntax.Kinds.{Kind, IsVoid, IsScalar, IsStructure, IsArray, IsIncomplete, IsFunction as IsOfFunction, is_sig}
use Rattle.cc_operands.specs.CcSyntax.SameTypes.{alike}
use Rattle.cc_operands.specs.CcSyntax.Types.{Named}
use Rattle.cc_operands.specs.CcSyntax.Values.{ValueType, NoValue, Integer, ToObject, ToFunction, PlaceType, DevicePlace, ObjectPlace, FunctionPlace, is_assignable, pointer_to}
use Rattle.cc_operands.specs.CcSyntax.Views.{View, kind_in}
use Rattle.cc_operands.specs.CcSyntax.Expressions.{type_of, place_type, null_type}

-- two types of values that are one: the outermost qualifiers in the type that is pointed to say nothing
pub data Agree : ValueType → ValueType → Type 0 where
  Same : (t : ValueType) → Agree t t
  Pointers : (constant volatile : Bool) (t u : CType) → alike t u ≡ true → Agree (ToObject constant volatile t) (ToObject constant volatile u)

-- two types of places that are one
pub data PlacesAgree : PlaceType → PlaceType → Type 0 where
  SamePlace : (t : PlaceType) → PlacesAgree t t
  Objects : (constant volatile : Bool) (t u : CType) → alike t u ≡ true → PlacesAgree (ObjectPlace constant volatile t) (ObjectPlace constant volatile u)

-- what may be pointed to: void where it may stand, and each other type but a function's
abbrev pub is_pointed_kind : Bool → Option Kind → Bool
is_pointed_kind void None = false
is_pointed_kind void (Some IsVoid) = void
is_pointed_kind void (Some (IsScalar qualified n)) = true
is_pointed_kind void (Some (IsStructure n)) = true
is_pointed_kind void (Some (IsArray n)) = true
is_pointed_kind void (Some IsIncomplete) = true
is_pointed_kind void (Some IsOfFunction) = false

module _ (p : View) where
  -- the type may stand in the program; a pointer to void, without qualifiers, is that of a null
  abbrev pub stands : ValueType → Bool
  stands NoValue = true
  stands (Integer t) = true
  stands (ToObject constant volatile t) = is_pointed_kind (not (constant || volatile)) (kind_in p t)
  stands (ToFunction sig) = is_sig p.target p.extents sig

  abbrev pub place_stands : PlaceType → Bool
  place_stands (DevicePlace constant t) = true
  place_stands (ObjectPlace constant volatile t) = is_pointed_kind false (kind_in p t)
  place_stands (FunctionPlace sig) = is_sig p.target p.extents sig

  -- a type of pointers that a null may have
  pub record IsNullType (t : CType) : Type 0 where
    pub to : CType
    pub pointer : out-Shape t.shape ≡ shape.Pointer to
    pub typed : null_type p t ≡ Some (pointer_to to)
    pub standing : stands (pointer_to to) ≡ true

  -- so may each member of each structure
  abbrev pub MembersStand : Type 0
  MembersStand = (i : ℕ) (s : Content) (m : ℕ) (member : Named) → slice_get p.structures i ≡ Some s → slice_get s.members m ≡ Some member → is_pointed_kind false (kind_in p member.1) ≡ true

  module _ (locals : List Named) where
    -- an expression whose value has this type
    pub record HasType (e : Expr) (t : ValueType) : Type 0 where
      pub own : ValueType
      pub typed : type_of p locals e ≡ Some own
      pub agrees : Agree own t
      pub standing : stands t ≡ true

    pub record IsTypedPlace (a : Place) (t : PlaceType) : Type 0 where
      pub own : PlaceType
      pub typed : place_type p locals a ≡ Some own
      pub agrees : PlacesAgree own t
      pub standing : place_stands t ≡ true

    -- an operand: a value of its type; what is void, whatever the type is of what it has evaluated; or a structure
    pub data IsTypedOperand : Operand → Type 0 where
      Valued : (x : Operand) → x.structure ≡ false → is_nothing x.type ≡ false → HasType x.value x.type → IsTypedOperand x
      Void : (x : Operand) (t : ValueType) → x.structure ≡ false → x.type ≡ NoValue → type_of p locals x.value ≡ Some t → IsTypedOperand x
      Structure : (x : Operand) (a : Place) (t : PlaceType) → x ≡ structure_at a → IsTypedPlace a t → IsTypedOperand x

    -- what an expression designates: a function by its id, which is no handler's; a constant that is cast to a pointer type
    abbrev pub IsTypedExpr : TypedExpr → Type 0
    IsTypedExpr (IsPlace a t) = IsTypedPlace a t
    IsTypedExpr (IsValue x) = IsTypedOperand x
    IsTypedExpr (IsFunction f sig) = HasType (FuncAddr f) (ToFunction sig)
    IsTypedExpr (IsIntrinsic i at) = Unit {0}
    IsTypedExpr (IsAddress n t at) = IsNullType t

    -- an operand as it is assigned to what has this type
    pub record IsAssigned (to : ValueType) (e : Expr) : Type 0 where
      pub own : ValueType
      pub typed : type_of p locals e ≡ Some own
      pub assignable : is_assignable to own ≡ true
