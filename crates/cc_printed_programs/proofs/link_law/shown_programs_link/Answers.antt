use Rattle.cc_printed_programs.proofs.Links.{program-links}
use Rattle.cc_printed_programs.proofs.link_law.shown_programs_link.Goals as goal

pub returns : goal.returns
returns c = record { links = λ p sound devices function_at object_at functions_ascend objects_ascend identifiers. program-links p sound devices function_at object_at functions_ascend objects_ascend identifiers }
