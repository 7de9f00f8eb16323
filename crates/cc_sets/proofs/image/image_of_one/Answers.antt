-- The hull of the image.
use Rattle.std.proofs.Common.{◌≡◌, Some}
use Rattle.cc_num.specs.Results.{unary_result_of}
use Rattle.cc_sets.proofs.Adding.{hull_of_list}
use Rattle.cc_sets.proofs.image.image_of_one.Goals as goal

pub returns : goal.returns
returns c = hull_of_list c.nothing-gathered.result c.add_image_of_one.new.self (λ v z. unary_result_of c.args.op v c.args.t c.args.target.now ≡ Some z) c.args.a.now.items.items c.members.result.now c.hull.result
    c.members.ensures c.nothing-gathered.ensures c.add_image_of_one.ensures c.hull.ensures.covers c.hull.ensures.least
