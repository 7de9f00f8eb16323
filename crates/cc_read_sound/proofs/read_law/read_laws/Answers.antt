use Rattle.cc_read_sound.proofs.Few.{few-texts}
use Rattle.cc_read_sound.proofs.Sound.{reads-sound}
use Rattle.cc_read_sound.proofs.read_law.read_laws.Goals as goal

pub returns : goal.returns
returns c = record { few = few-texts; sound = reads-sound }
