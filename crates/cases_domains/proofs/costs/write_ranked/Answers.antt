use Rattle.cases_domains.proofs.Gains.{each_gain}
use Rattle.cases_domains.proofs.costs.write_ranked.Goals as goal

pub rank-requires-clause-gains : goal.rank-requires-clause-gains
rank-requires-clause-gains c = each_gain c.args.list.now c.requires.gains
