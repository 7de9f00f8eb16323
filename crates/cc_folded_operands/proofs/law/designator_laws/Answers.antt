use Rattle.cc_folded_operands.proofs.Assignments.{assign_folded, before_folded, stepped_after_folded}
use Rattle.cc_folded_operands.proofs.Designators.{value_folded, null_folded, element_of_folded, subscripted_folded, dot_folded, arrow_folded, address_folded, indirection_folded, cast_of_folded, size_folded, called_folded, intrinsic_folded}
use Rattle.cc_folded_operands.proofs.law.designator_laws.Goals as goal

pub returns : goal.returns
returns c = record {
  values = λ target a t r h e. value_folded target a t r h e;
  nulls = λ target t. null_folded target t;
  elements = λ target a t i r h k e. element_of_folded target a t i r h k e;
  subscripts = λ target structures x i r h k e. subscripted_folded target structures x i r h k e;
  members = λ target structures x a r h e. dot_folded target structures x a r h e;
  arrows = λ target structures x p r h e. arrow_folded target structures x p r h e;
  addresses = λ target a r h e. address_folded target a r h e;
  indirections = λ target p r h e. indirection_folded target p r h e;
  casts = λ target at t x r h e. cast_of_folded target at t x r h e;
  sizes = λ target n r e. size_folded target n r e;
  calls = λ target f xs r h k e. called_folded target f xs r h k e;
  intrinsics = λ target i xs r h e. intrinsic_folded target i xs r h e;
  assignments = λ target structures mark a x r h k e. assign_folded target structures mark a x r h k e;
  before = λ target structures down a r h e. before_folded target structures down a r h e;
  after = λ target structures down a r h e. stepped_after_folded target structures down a r h e;
}
