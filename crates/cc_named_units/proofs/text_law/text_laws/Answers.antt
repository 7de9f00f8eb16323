use Rattle.cc_named_units.proofs.Texts.{of_text, few_there, own_names, own_main}
use Rattle.cc_named_units.proofs.text_law.text_laws.Goals as goal

pub returns : goal.returns
returns c = record {
  texts = λ text ts u target roles t small d s h. of_text text ts u target roles t small d s h;
  own = λ text ts u target roles t d s h. own_names text ts u target roles t d s h;
  main = λ text ts u target roles t d s h. own_main text ts u target roles t d s h;
  few = λ text ts u target roles t d s h. few_there text ts u target roles t d s h;
}
