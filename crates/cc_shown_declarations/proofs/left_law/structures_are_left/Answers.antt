use Rattle.cc_shown_declarations.proofs.Left.{number-left, structures-left}
use Rattle.cc_shown_declarations.proofs.left_law.structures_are_left.Goals as goal

pub returns : goal.returns
returns c = record {
  numbers = λ p sound i s e. number-left p sound i s e;
  structures = λ p sound. structures-left p sound;
}
