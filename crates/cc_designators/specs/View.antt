-- What expressions designate, and the types of places, as the code has them, as the definitions do.
use Rattle.cc_operands.specs.View.{operand_view}
use Rattle.cc_operands.specs.CcSyntax.Values.{PlaceType, DevicePlace, ObjectPlace, FunctionPlace}
use Rattle.cc_designators.specs.Designators.{TypedExpr, IsPlace, IsValue, IsFunction, IsIntrinsic, IsAddress}
use Rattle.cc_designators.specs.declared.designated.DesignatedType.{DesignatedType}
use Rattle.cc_designators.specs.declared.designated.DesignatedType.TheVariants as designated
use Rattle.cc_designators.specs.declared.designated.TypedExpr.{TypedExpr as CodeExpr}
use Rattle.cc_designators.specs.declared.designated.TypedExpr.TheVariants as typed

abbrev pub designated_view : DesignatedType → PlaceType
designated_view (designated.Device constant t) = DevicePlace constant t
designated_view (designated.Object constant volatile t) = ObjectPlace constant volatile t
designated_view (designated.Function sig) = FunctionPlace sig

abbrev pub expr_view : CodeExpr → TypedExpr
expr_view (typed.Place a t) = IsPlace a (designated_view t)
expr_view (typed.Value x) = IsValue (operand_view x)
expr_view (typed.Function f sig) = IsFunction f sig
expr_view (typed.Intrinsic i at) = IsIntrinsic i at
expr_view (typed.Address n t at) = IsAddress n t at
