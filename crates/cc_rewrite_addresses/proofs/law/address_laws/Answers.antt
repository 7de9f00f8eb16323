use Rattle.cc_rewrite_addresses.proofs.Behind.{does_behind}
use Rattle.cc_rewrite_addresses.proofs.Expressions.{expression_safe}
use Rattle.cc_rewrite_addresses.proofs.Starts.{start_in, run_in}
use Rattle.cc_rewrite_addresses.proofs.Steps.{turn_in}
use Rattle.cc_rewrite_addresses.proofs.law.address_laws.Goals as goal

pub returns : goal.returns
returns c = record {
  expressions = expression_safe;
  behind = does_behind;
  starts = start_in;
  turns = λ test p t none. turn_in test p none;
  runs = λ test p t none. run_in test p none t;
}
