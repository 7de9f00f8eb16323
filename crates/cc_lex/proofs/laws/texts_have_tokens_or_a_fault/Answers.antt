use Rattle.cc_lex.proofs.Whole.{one-list, one-fault, either, not-both}
use Rattle.cc_lex.proofs.laws.texts_have_tokens_or_a_fault.Goals as goal

pub returns-clause-one_list : goal.returns-clause-one_list
returns-clause-one_list c = one-list

pub returns-clause-one_fault : goal.returns-clause-one_fault
returns-clause-one_fault c = one-fault

pub returns-clause-either : goal.returns-clause-either
returns-clause-either c = either

pub returns-clause-not_both : goal.returns-clause-not_both
returns-clause-not_both c = not-both
