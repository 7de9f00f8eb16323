use Rattle.cc_operand_types.proofs.Calls.{called_typed}
use Rattle.cc_operand_types.proofs.Casts.{cast_of_typed, size_typed}
use Rattle.cc_operand_types.proofs.Intrinsics.{intrinsic_typed}
use Rattle.cc_operand_types.proofs.Nulls.{null_operand}
use Rattle.cc_operand_types.proofs.operand_law.call_laws.Goals as goal

pub returns : goal.returns
returns c = record {
  calls = λ p locals f xs r h k e. called_typed p locals f xs r h k e;
  intrinsics = λ p locals i xs r h e. intrinsic_typed p locals i xs r h e;
  casts = λ p locals at t x r n h e. cast_of_typed p locals at t x r n h e;
  nulls = λ p locals t n. null_operand p locals t n;
  sizes = λ p locals n r e. size_typed p locals n r e;
}
