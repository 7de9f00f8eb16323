use Rattle.cc_packing.proofs.OneAnswer.{asked_or_ends, one_end}
use Rattle.cc_packing.proofs.law.laws.Goals as goal

pub returns-clause-not_both : goal.returns-clause-not_both
returns-clause-not_both c = λ files a. asked_or_ends files a

pub returns-clause-one_end : goal.returns-clause-one_end
returns-clause-one_end c = λ files a. one_end files a
