use Rattle.std.proofs.Common.{refl}
use Rattle.cc_cost_ranking.proofs.LawLemmas.{both, dearer, left, tied, within}
use Rattle.cc_cost_ranking.proofs.OneOrder.{one_order}
use Rattle.cc_cost_ranking.proofs.law.laws.Goals as goal

pub returns-clause-one_order : goal.returns-clause-one_order
returns-clause-one_order c = λ weights list xs ys h p q up up'. one_order weights list xs ys h p q up up'

pub returns-clause-within : goal.returns-clause-within
returns-clause-within c = λ budgets order. within budgets order

pub returns-clause-dearer : goal.returns-clause-dearer
returns-clause-dearer c = λ weights h k. dearer weights h k

pub returns-clause-tied : goal.returns-clause-tied
returns-clause-tied c = λ weights h k. tied weights h k

pub returns-clause-left : goal.returns-clause-left
returns-clause-left c = left

pub returns-clause-both : goal.returns-clause-both
returns-clause-both c = both

pub returns-clause-direct : goal.returns-clause-direct
returns-clause-direct c = refl

pub returns-clause-constant : goal.returns-clause-constant
returns-clause-constant c = refl

pub returns-clause-table : goal.returns-clause-table
returns-clause-table c = refl

pub returns-clause-biased : goal.returns-clause-biased
returns-clause-biased c = λ low. refl
