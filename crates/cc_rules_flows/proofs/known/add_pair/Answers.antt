use Rattle.cc_rules_flows.proofs.ShapeLemmas.{kept_itself}
use Rattle.cc_rules_flows.proofs.known.add_pair.Goals as goal

pub returns-in-None-clause-kept : goal.returns-in-None-clause-kept
returns-in-None-clause-kept g c = λ registers cells l i. kept_itself registers cells c.args.fact.now

pub returns-in-Some-clause-tells : goal.returns-in-Some-clause-tells
returns-in-Some-clause-tells g c = rw c.in-Some.is c.put_pair.ensures.tells

pub returns-in-Some-clause-kept : goal.returns-in-Some-clause-kept
returns-in-Some-clause-kept g c = rw c.in-Some.is c.put_pair.ensures.kept
