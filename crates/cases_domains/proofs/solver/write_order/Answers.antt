-- The lowest facts and the solution both fit the chain.
use Rattle.cases_domains.specs.ChainLaws.{chains_alike}
use Rattle.cases_domains.proofs.solver.write_order.Goals as goal

pub below-requires : goal.below-requires
below-requires c = chains_alike c.args.lowest.now c.args.solution.now c.requires.lowest c.requires.solution

pub below-requires-2 : goal.below-requires-2
below-requires-2 c = chains_alike c.args.solution.now c.args.lowest.now c.requires.solution c.requires.lowest

pub join-requires : goal.join-requires
join-requires c = chains_alike c.args.lowest.now c.args.solution.now c.requires.lowest c.requires.solution
