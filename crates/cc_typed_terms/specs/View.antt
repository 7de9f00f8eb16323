-- Lists of operands, as the code has them, as the definitions do.
use Rattle.std.specs.Prelude.{List, map}
use Rattle.cc_scopes.specs.CcOperands.Operands.{Operand}
use Rattle.cc_scopes.specs.CcOperands.View.{operand_view}
use Rattle.cc_scopes.specs.CcOperands.declared.operand.Operand.{Operand as CodeOperand}

abbrev pub operands_view : List CodeOperand → List Operand
operands_view xs = map operand_view xs
