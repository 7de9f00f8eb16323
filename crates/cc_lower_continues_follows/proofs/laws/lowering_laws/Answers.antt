use Rattle.cc_lower_continues.specs.Continues.{flagged_program}
use Rattle.cc_lower_continues_follows.proofs.Composed.{follows, answers}
use Rattle.cc_lower_continues_follows.proofs.FlaggedTyped.{flagged_typed}
use Rattle.cc_lower_continues_follows.proofs.LoweredTyped.{lowered_typed}
use Rattle.cc_lower_continues_follows.proofs.laws.lowering_laws.Goals as goal

pub returns : goal.returns
returns c = record {
  follows = follows;
  answers = answers;
  typed = λ p h few. lowered_typed (flagged_program p) (flagged_typed p h few);
}
