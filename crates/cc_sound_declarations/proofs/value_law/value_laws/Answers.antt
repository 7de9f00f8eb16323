use Rattle.cc_sound_declarations.proofs.Values.{values_are}
use Rattle.cc_sound_declarations.proofs.value_law.value_laws.Goals as goal

pub returns : goal.returns
returns c = record { values = λ v locals roles c g f s r h. let o = values_are v roles locals c g f s r h in (o.grown, o.holds) }
