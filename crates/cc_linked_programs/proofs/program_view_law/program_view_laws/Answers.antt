use Rattle.cc_linked_programs.proofs.HandlerViews.{no_handler}
use Rattle.cc_linked_programs.proofs.program_view_law.program_view_laws.Goals as goal

pub returns : goal.returns
returns c = record { handlers = λ texts target sound roles name_of none m h u. no_handler texts target sound roles name_of none m h u }
