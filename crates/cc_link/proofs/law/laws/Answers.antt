use Rattle.cc_link.proofs.AtMostOne.{one_program, one_cause, not_both}
use Rattle.cc_link.proofs.law.laws.Goals as goal

pub returns-clause-one_program : goal.returns-clause-one_program
returns-clause-one_program c = one_program

pub returns-clause-one_cause : goal.returns-clause-one_cause
returns-clause-one_cause c = one_cause

pub returns-clause-not_both : goal.returns-clause-not_both
returns-clause-not_both c = not_both
