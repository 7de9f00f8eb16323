use Rattle.cc_steps.proofs.MarkLemmas.{marked_with, marked_call}
use Rattle.cc_steps.proofs.laws.activation_laws.Goals as goal

pub returns : goal.returns
returns c = record {
  locals = λ p a m l. marked_with p a m l;
  calls = λ p a m. marked_call p a m;
}
