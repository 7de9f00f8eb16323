use Rattle.cc_linked_programs.proofs.Whole.{sources_sound}
use Rattle.cc_linked_programs.proofs.sound_law.sound_program_laws.Goals as goal

pub returns : goal.returns
returns c = record { link_sound = λ texts target roles p links sound each own few. sources_sound texts target roles p links sound each own few }
