use Rattle.cc_lower_numbers_follows.proofs.Traces.{shows_none}
use Rattle.cc_lower_numbers_follows.proofs.Whole.{follows, answers}
use Rattle.cc_lower_numbers_follows.proofs.laws.renaming_laws.Goals as goal

pub returns : goal.returns
returns c = record {
  events = shows_none;
  follows = λ r devices funcs p sound renamed. follows r devices funcs p renamed sound (shows_none p sound);
  answers = λ r devices funcs p sound renamed. answers r devices funcs p renamed sound (shows_none p sound);
}
