use Rattle.cc_read_sound.proofs.Units.{text_sound}
use Rattle.cc_read_sound.proofs.unit_law.unit_laws.Goals as goal

pub returns : goal.returns
returns c = record { sound = λ text ts u target roles t small spelled sentence h. text_sound text ts u target roles t small spelled sentence h }
