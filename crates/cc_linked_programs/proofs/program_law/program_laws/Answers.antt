use Rattle.cc_linked_programs.proofs.Program.{linked_sound}
use Rattle.cc_linked_programs.proofs.program_law.program_laws.Goals as goal

pub returns : goal.returns
returns c = record { link_sound = λ texts target roles p links sound own named few. linked_sound texts target roles p links sound own named few }
