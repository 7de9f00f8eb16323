use Rattle.cc_sound_declarations.proofs.Declaring.{of_extends, wider, goes_on}
use Rattle.cc_sound_declarations.proofs.state_law.declaring_laws.Goals as goal

pub returns : goal.returns
returns c = record {
  goes_on = λ v defined k. goes_on v defined k;
  expressions = λ v defined s t D g. of_extends v defined (Unit {0}) s t D g;
  wider = λ v s t D more L e k. wider v D more L s t e k;
}
