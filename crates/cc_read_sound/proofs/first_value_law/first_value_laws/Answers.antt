use Rattle.cc_read_sound.proofs.FirstObjects.{object_initial}
use Rattle.cc_read_sound.proofs.FirstValues.{first_values}
use Rattle.cc_read_sound.proofs.first_value_law.first_value_laws.Goals as goal

pub returns : goal.returns
returns c = record {
  values = λ v locals roles c g f s r h. let o = first_values v roles locals c g f s r h in (o.grown, o.holds);
  objects = λ v s u w o h leaves a. object_initial v s u w o h leaves a;
}
