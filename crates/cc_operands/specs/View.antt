-- What operands, their types and constants are, as the code has them, as the definitions do.
use Rattle.cc_operands.specs.Operands.{Operand}
use Rattle.cc_operands.specs.declared.constants.Constant.{Constant as CodeConstant}
use Rattle.cc_operands.specs.declared.constants.Constant.TheVariants as constant
use Rattle.cc_operands.specs.declared.operand.Operand.{Operand as CodeOperand}
use Rattle.cc_operands.specs.declared.types.OperandType.{OperandType}
use Rattle.cc_operands.specs.declared.types.OperandType.TheVariants as type
use Rattle.cc_typed.specs.CcSyntax.Folding.{Constant, NoConstant, Value, Traps}
use Rattle.cc_typed.specs.CcSyntax.Values.{ValueType, NoValue, Integer, ToObject, ToFunction}

abbrev pub constant_view : CodeConstant → Constant
constant_view constant.NoConstant = NoConstant
constant_view (constant.Value n) = Value n
constant_view constant.Traps = Traps

abbrev pub type_view : OperandType → ValueType
type_view type.NoValue = NoValue
type_view (type.Integer t) = Integer t
type_view (type.ToObject constant volatile t) = ToObject constant volatile t
type_view (type.ToFunction sig) = ToFunction sig

abbrev pub operand_view : CodeOperand → Operand
operand_view x = record { value = x.value; type = type_view x.ctype; traps = x.traps; structure = x.structure }
