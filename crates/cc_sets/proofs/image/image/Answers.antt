-- The hull of the image.
use Rattle.cc_sets.proofs.Adding.{hull_of_image}
use Rattle.cc_sets.proofs.image.image.Goals as goal

pub returns : goal.returns
returns c = hull_of_image c.nothing-gathered.result c.add_image.new.self c.args.op c.args.t c.args.target.now c.members.result.now c.members-2.result.now c.args.a.now.items.items c.args.b.now.items.items c.hull.result
    c.members.ensures c.members-2.ensures c.nothing-gathered.ensures c.add_image.ensures c.hull.ensures.covers c.hull.ensures.least
