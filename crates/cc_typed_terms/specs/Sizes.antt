-- sizeof (C99 6.5.3.4): of a type that is complete, where size_t holds its size.
use Rattle.std.specs.Prelude.{Err, if◌then◌else◌}
use Rattle.cc_designators.specs.Casts.{size_value}
use Rattle.cc_designators.specs.Designators.{TypedExpr, IsPlace, IsValue, IsFunction, IsIntrinsic, IsAddress}
use Rattle.cc_program.specs.CcNum.Integers.{bytes_of}
use Rattle.cc_program.specs.CcNum.declared.target.Target.{Target}
use Rattle.cc_scopes.specs.CcOperands.Operands.{Operand}
use Rattle.cc_scopes.specs.CcOperands.Qualified.{type_of_value}
use Rattle.cc_scopes.specs.CcOperands.Verdicts.{Judged, must}
use Rattle.cc_scopes.specs.CcOperands.declared.rule.Rule.TheVariants as rule
use Rattle.cc_program.specs.declared.types.CType.{CType}
use Rattle.cc_scopes.specs.State.{State, structures_of, layouts_of, is_unfinished}
use Rattle.cc_specifiers.specs.Objects.{size_of}
use Rattle.cc_scopes.specs.CcSyntax.Types.{is_complete}
use Rattle.cc_scopes.specs.CcSyntax.Values.{PlaceType, DevicePlace, ObjectPlace, FunctionPlace}

module _ (target : Target) (s : State) where
  abbrev pub size_of_type : CType → Judged Operand
  size_of_type t = must (is_complete (structures_of s) t) rule.SizeOf (size_value target (size_of target (structures_of s) (layouts_of s) t))

  abbrev pub size_of_place : PlaceType → Judged Operand
  size_of_place (ObjectPlace constant volatile t) = size_of_type t
  size_of_place (DevicePlace constant t) = size_value target (bytes_of t target)
  size_of_place (FunctionPlace sig) = Err rule.SizeOf

  abbrev pub sizeof_judged : TypedExpr → Judged Operand
  sizeof_judged (IsPlace a t) = if is_unfinished a s then Err rule.SizeOf else size_of_place t
  sizeof_judged (IsValue x) = size_of_type (type_of_value x.type)
  sizeof_judged (IsFunction f sig) = Err rule.SizeOf
  sizeof_judged (IsIntrinsic i place) = Err rule.MainOrIntrinsic
  sizeof_judged (IsAddress n t place) = size_of_type t
