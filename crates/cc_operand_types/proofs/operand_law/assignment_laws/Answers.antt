use Rattle.cc_operand_types.proofs.Stores.{assigned_typed, assign_typed, before_typed, after_typed}
use Rattle.cc_operand_types.proofs.operand_law.assignment_laws.Goals as goal

pub returns : goal.returns
returns c = record {
  assigned = λ p locals to x y s h e. assigned_typed p locals to x y s h e;
  assignments = λ p locals mark a x r h k e. assign_typed p locals mark a x r h k e;
  before = λ p locals down a r h e. before_typed p locals down a r h e;
  after = λ p locals down a r h e. after_typed p locals down a r h e;
}
