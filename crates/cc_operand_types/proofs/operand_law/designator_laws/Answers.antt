use Rattle.cc_operands.specs.CcSyntax.Values.{ToFunction}
use Rattle.cc_operand_types.proofs.Leaves.{local_typed, static_typed, device_typed, function_typed}
use Rattle.cc_operand_types.proofs.Places.{value_typed, address_typed, element_of_typed, subscripted_typed, indirection_typed, dot_typed, arrow_typed}
use Rattle.cc_operand_types.proofs.Standing.{object_type}
use Rattle.cc_operand_types.proofs.operand_law.designator_laws.Goals as goal

pub returns : goal.returns
returns c = record {
  object_types = λ o h. object_type o h;
  locals = λ p locals r l e h. local_typed p locals r l e h;
  objects = λ p locals i t e h. static_typed p locals i t e h;
  devices = λ p locals i t e h. device_typed p locals i t e h;
  functions = λ p locals i sig e h. function_typed p locals i (ToFunction sig) e h;
  values = λ p locals a t r h e. value_typed p locals a t r h e;
  addresses = λ p locals a r h e. address_typed p locals a r h e;
  elements = λ p locals a t i r h k e. element_of_typed p locals a t i r h k e;
  subscripts = λ p locals x i r h k e. subscripted_typed p locals x i r h k e;
  indirections = λ p locals x r h e. indirection_typed p locals x r h e;
  members = λ p locals m name a r h e. dot_typed p locals m name a r h e;
  arrows = λ p locals m name x r h e. arrow_typed p locals m name x r h e;
}
