use Rattle.cc_operand_types.proofs.WithoutConst.{reduced_const, reduced_itself}
use Rattle.cc_operand_types.proofs.unit_law.object_laws.Goals as goal

pub returns : goal.returns
returns c = record { without_const = λ t. reduced_const t; itself = λ t. reduced_itself t }
