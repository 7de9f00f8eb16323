use Rattle.cc_lower_sound.proofs.KeptRegisters.{register_law, temporary_law}
use Rattle.cc_lower_sound.proofs.NormalPrograms.{lowered_program_normal}
use Rattle.cc_lower_sound.proofs.TypedPrograms.{lowered_program_typed}
use Rattle.cc_lower_sound.proofs.WholeNormal.{with_names, without_names}
use Rattle.cc_lower_sound.proofs.program_law.lowered_expression_laws.Goals as goal

pub returns : goal.returns
returns c = record {
  typed = lowered_program_typed;
  normal = lowered_program_normal;
  registers = register_law;
  temporaries = temporary_law;
  whole = λ p. (without_names p, with_names p);
}
