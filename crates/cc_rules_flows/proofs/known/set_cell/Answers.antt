use Rattle.cc_rules_flows.proofs.ShapeLemmas.{kept_itself}
use Rattle.cc_rules_flows.proofs.known.set_cell.Goals as goal

pub returns-in-None-clause-kept : goal.returns-in-None-clause-kept
returns-in-None-clause-kept g c = λ registers cells. kept_itself registers cells c.args.fact.now

pub returns-in-Some-clause-tells : goal.returns-in-Some-clause-tells
returns-in-Some-clause-tells g c = rw c.in-Some.is c.put_cell.ensures.tells
