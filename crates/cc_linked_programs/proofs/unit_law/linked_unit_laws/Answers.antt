use Rattle.cc_linked_programs.proofs.Units.{unit_renumbered}
use Rattle.cc_linked_programs.proofs.unit_law.linked_unit_laws.Goals as goal

pub returns : goal.returns
returns c = record { renumbers = λ texts target sound roles numbering firsts are none no_bad t x ex. unit_renumbered texts target sound roles numbering firsts are none no_bad t x ex }
