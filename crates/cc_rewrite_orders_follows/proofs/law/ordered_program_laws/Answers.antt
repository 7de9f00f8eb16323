use Rattle.cc_rewrite_orders_follows.proofs.Orders.{ordered_follows, ordered_answers}
use Rattle.cc_rewrite_orders_follows.proofs.law.ordered_program_laws.Goals as goal

pub returns : goal.returns
returns c = record {
  follows = ordered_follows;
  answers = ordered_answers;
}
