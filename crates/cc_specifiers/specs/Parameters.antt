-- A parameter is adjusted (C99 6.7.5.3, 7 and 8): an array to a pointer to its element, a function to one to it.
use Rattle.std.specs.Prelude.{Ok, Err}
use Rattle.cc_operands.specs.Qualified.{plain}
use Rattle.cc_operands.specs.Verdicts.{Judged}
use Rattle.cc_operands.specs.declared.rule.Rule.TheVariants as rule
use Rattle.cc_program.specs.declared.types.CType.{CType}
use Rattle.cc_program.specs.declared.types.Shape.{Shape, Pointer, out-Shape}
use Rattle.cc_program.specs.declared.types.Shape.TheOpen as shape
use Rattle.cc_program.specs.declared.types.Sig.{Sig}

abbrev pub adjusted_by : CType → shape.Shape-F Shape CType Sig → CType
adjusted_by t (shape.Array of n) = plain (Pointer of)
adjusted_by t (shape.Func sig) = plain (Pointer t)
adjusted_by t _ = t

abbrev pub adjusted : CType → CType
adjusted t = adjusted_by t (out-Shape t.shape)

-- it is a scalar
abbrev pub parameter_by : CType → shape.Shape-F Shape CType Sig → Judged CType
parameter_by t (shape.Struct i) = Err rule.StructureValue
parameter_by t shape.Void = Err rule.NoObjectType
parameter_by t _ = Ok t

abbrev pub parameter_type : CType → Judged CType
parameter_type t = parameter_by (adjusted t) (out-Shape (adjusted t).shape)
