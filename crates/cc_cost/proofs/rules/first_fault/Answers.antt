use Rattle.cc_cost.proofs.SetLemmas.{names-empty, things-empty}
use Rattle.cc_cost.proofs.rules.first_fault.Goals as goal

pub first_fault_behind-requires-clause-things : goal.first_fault_behind-requires-clause-things
first_fault_behind-requires-clause-things c = things-empty c.new.result c.new.ensures.empty

pub first_fault_behind-requires-clause-names : goal.first_fault_behind-requires-clause-names
first_fault_behind-requires-clause-names c = names-empty c.new-2.result c.new-2.ensures.empty
