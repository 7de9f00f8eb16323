use Rattle.cc_steps.proofs.RunLaws.{Follows-refl, Follows-trans, Answers-refl, Answers-trans}
use Rattle.cc_steps.proofs.laws.orders.Goals as goal

pub returns : goal.returns
returns c = record {
  follows_itself = Follows-refl;
  follows_on = Follows-trans;
  answers_itself = Answers-refl;
  answers_on = Answers-trans;
}
