use Rattle.cc_simulation.proofs.OneAnswer.{asked_or_ends, one_end}
use Rattle.cc_simulation.proofs.law.laws.Goals as goal

pub returns-clause-not_both : goal.returns-clause-not_both
returns-clause-not_both c = λ files a. asked_or_ends files a

pub returns-clause-one_end : goal.returns-clause-one_end
returns-clause-one_end c = λ files a. one_end files a
