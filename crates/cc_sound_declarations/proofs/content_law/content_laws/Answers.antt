use Rattle.cc_sound_declarations.proofs.Contents.{contents_same}
use Rattle.cc_sound_declarations.proofs.content_law.content_laws.Goals as goal

pub returns : goal.returns
returns c = record { stable = contents_same }
