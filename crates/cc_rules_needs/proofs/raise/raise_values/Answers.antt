use Rattle.cc_rules_needs.proofs.Puts.{least_in}
use Rattle.cc_rules_needs.proofs.raise.raise_values.Goals as goal

pub returns-clause-raised : goal.returns-clause-raised
returns-clause-raised g c =
    least_in g.I.Lattice.IsBelow c.args.sets.now c.all.result.now c.set.new.list c.args.n c.args.values.now c.index-all-n.result c.in_ok-joined.joined c.requires c.all.ensures c.index-all-n.is c.in_ok-joined.ensures c.set.ensures
