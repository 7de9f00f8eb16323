use Rattle.cc_rules_needs.proofs.Puts.{mark_put_is, levels_put_is}
use Rattle.cc_rules_needs.proofs.raise.put.Goals as goal

pub returns-in-Mark-clause-raised : goal.returns-in-Mark-clause-raised
returns-in-Mark-clause-raised g c = mark_put_is g.I.Lattice.IsBelow c.args.need.now.0 c.args.need.now.1 c.in-Mark.mark c.args.facts.now c.put_mark.new.facts c.in-Mark.is c.requires c.put_mark.ensures

pub returns-in-LevelSet-clause-raised : goal.returns-in-LevelSet-clause-raised
returns-in-LevelSet-clause-raised g c =
    levels_put_is g.I.Lattice.IsBelow c.args.need.now.0 c.args.need.now.1 c.in-LevelSet.levels c.args.facts.now c.put_levels.new.facts c.in-LevelSet.is c.requires c.put_levels.ensures
