use Rattle.cc_unit_trees.proofs.Names.{all-declare}
use Rattle.cc_unit_trees.proofs.Programs.{program-reads}
use Rattle.cc_unit_trees.proofs.unit_law.programs_read_back.Goals as goal

pub returns : goal.returns
returns c = record { sentence = program-reads; names = λ p u h. all-declare p h }
