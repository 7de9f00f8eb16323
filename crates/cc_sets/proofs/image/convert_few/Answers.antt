-- The hull of the image.
use Rattle.std.proofs.Common.{◌≡◌}
use Rattle.cc_num.specs.Integers.{converted}
use Rattle.cc_sets.proofs.Adding.{hull_of_list}
use Rattle.cc_sets.proofs.image.convert_few.Goals as goal

pub returns : goal.returns
returns c = hull_of_list c.nothing-gathered.result c.add_converted.new.self (λ v z. converted v c.args.t c.args.target.now ≡ z) c.args.a.now.items.items c.members.result.now c.hull.result
    c.members.ensures c.nothing-gathered.ensures c.add_converted.ensures c.hull.ensures.covers c.hull.ensures.least
