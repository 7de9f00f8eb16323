use Rattle.cc_type.proofs.Laws.{one_unit, one_fault, not_both, either}
use Rattle.cc_type.proofs.law.units_have_types_or_a_fault.Goals as goal

pub returns-clause-one_unit : goal.returns-clause-one_unit
returns-clause-one_unit c = one_unit

pub returns-clause-one_fault : goal.returns-clause-one_fault
returns-clause-one_fault c = one_fault

pub returns-clause-not_both : goal.returns-clause-not_both
returns-clause-not_both c = not_both

pub returns-clause-either : goal.returns-clause-either
returns-clause-either c = either
