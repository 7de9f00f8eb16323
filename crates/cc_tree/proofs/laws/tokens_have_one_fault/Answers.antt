use Rattle.cc_tree.proofs.Faults.{one_fault, not_read}
use Rattle.cc_tree.proofs.laws.tokens_have_one_fault.Goals as goal

pub returns-clause-one_fault : goal.returns-clause-one_fault
returns-clause-one_fault c = one_fault

pub returns-clause-not_read : goal.returns-clause-not_read
returns-clause-not_read c = not_read
