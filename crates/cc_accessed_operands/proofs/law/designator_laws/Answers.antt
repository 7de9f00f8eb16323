use Rattle.cc_accessed_operands.proofs.Assignments.{assign_keeps, before_keeps, after_keeps}
use Rattle.cc_accessed_operands.proofs.Calls.{written_cast_keeps, called_keeps, intrinsic_keeps}
use Rattle.cc_accessed_operands.proofs.Designators.{value_keeps, element_keeps, subscript_keeps, dot_keeps, arrow_keeps, address_keeps, indirection_keeps}
use Rattle.cc_accessed_operands.proofs.law.designator_laws.Goals as goal

pub returns : goal.returns
returns c = record {
  values = λ a t r h e. value_keeps a t r h e;
  elements = λ a t i r h e. element_keeps a t i r h e;
  subscripts = λ structures x i r e. subscript_keeps structures x i r e;
  members = λ structures x a r h e. dot_keeps structures x a r h e;
  arrows = λ structures x p r e. arrow_keeps structures x p r e;
  addresses = λ a r h e. address_keeps a r h e;
  indirections = λ p r e. indirection_keeps p r e;
  casts = λ target at t x r h e. written_cast_keeps target at t x r h e;
  calls = λ target f xs r e. called_keeps target f xs r e;
  intrinsics = λ target i xs r e. intrinsic_keeps target i xs r e;
  assignments = λ target structures mark a x r e. assign_keeps target structures mark a x r e;
  before = λ target structures down a r e. before_keeps target structures down a r e;
  after = λ structures down a r e. after_keeps structures down a r e;
}
