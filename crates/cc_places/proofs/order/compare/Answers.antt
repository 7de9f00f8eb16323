-- The cases give the order of the listing.
use Rattle.std.proofs.Common.{◌∙◌}
use Rattle.cc_places.specs.laws.OrderLaws.{order_by_cases}
use Rattle.cc_places.proofs.order.compare.Goals as goal

pub returns : goal.returns
returns c = c.compare_by_cases.ensures ∙ order_by_cases c.args.a.now c.args.b.now
