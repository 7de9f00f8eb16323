use Rattle.cc_lower_sound.proofs.WholePrograms.{whole_normal, whole_typed}
use Rattle.cc_lower_sound.proofs.program_law.lowered_program_laws.Goals as goal

pub returns : goal.returns
returns c = record {
  typed = whole_typed;
  normal = whole_normal;
}
