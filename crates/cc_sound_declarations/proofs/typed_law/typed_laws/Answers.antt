use Rattle.cc_sound_declarations.proofs.Assignments.{all_typed}
use Rattle.cc_sound_declarations.proofs.typed_law.typed_laws.Goals as goal

pub returns : goal.returns
returns c = record { typed = all_typed }
