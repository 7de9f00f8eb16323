use Rattle.cc_read.proofs.Refused.{one_program, one_cause, not_refused, high_alone}
use Rattle.cc_read.proofs.law.laws.Goals as goal

pub returns-clause-one_program : goal.returns-clause-one_program
returns-clause-one_program c = λ texts target roles. one_program target roles texts

pub returns-clause-one_cause : goal.returns-clause-one_cause
returns-clause-one_cause c = λ texts target roles. one_cause target roles texts

pub returns-clause-not_both : goal.returns-clause-not_both
returns-clause-not_both c = λ texts target roles. not_refused target roles texts

pub returns-clause-only_too_high : goal.returns-clause-only_too_high
returns-clause-only_too_high c = λ texts target roles. high_alone target roles texts
