-- The hull of what was added.
use Rattle.std.proofs.Common.{Some}
use Rattle.cc_sets.proofs.Adding.{hull_of_added}
use Rattle.cc_ranges.specs.Ends.{EndsHave}
use Rattle.cc_sets.proofs.image.hull_of_spread.Goals as goal

pub returns : goal.returns
returns c = hull_of_added c.nothing-gathered.result c.add_spread.new.self (EndsHave (Some (c.args.spread.low, c.args.spread.high))) c.hull.result c.nothing-gathered.ensures c.add_spread.ensures c.hull.ensures.covers c.hull.ensures.least
