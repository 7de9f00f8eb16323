use Rattle.cc_plan_costs.proofs.Entering.{enters}
use Rattle.cc_plan_costs.proofs.law.laws.Goals as goal

pub returns : goal.returns
returns c = λ points facts others n. enters points facts others n
