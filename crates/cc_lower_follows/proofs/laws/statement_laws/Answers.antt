use Rattle.cc_lower_follows.proofs.Lowered.{follows, answers}
use Rattle.cc_lower_follows.proofs.laws.statement_laws.Goals as goal

pub returns : goal.returns
returns c = record {
  follows = follows;
  answers = answers;
}
