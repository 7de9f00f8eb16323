use Rattle.cc_plan_legal.proofs.LegalLaws.{legal, is_legal}
use Rattle.cc_plan_legal.proofs.law.laws.Goals as goal

pub returns : goal.returns
returns c = λ slots plan. (legal slots plan, is_legal slots plan)
