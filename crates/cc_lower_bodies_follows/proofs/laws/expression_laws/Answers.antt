use Rattle.cc_lower_bodies_follows.proofs.LoweredPrograms.{follows, answers}
use Rattle.cc_lower_bodies_follows.proofs.laws.expression_laws.Goals as goal

pub returns : goal.returns
returns c = record {
  follows = follows;
  answers = answers;
}
