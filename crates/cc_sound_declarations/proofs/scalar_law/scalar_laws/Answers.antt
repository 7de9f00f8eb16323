use Rattle.cc_sound_declarations.proofs.Ordered.{initialised_gives}
use Rattle.cc_sound_declarations.proofs.scalar_law.scalar_laws.Goals as goal

pub returns : goal.returns
returns c = record { each = initialised_gives }
