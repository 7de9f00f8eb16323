use Rattle.std.proofs.Common.{◌∙◌}
use Rattle.cc_plan_choice.proofs.Orders.{found}
use Rattle.cc_plan_choice.proofs.order.is_among.Goals as goal

pub returns : goal.returns
returns c = c.is_ok.ensures.value ∙ found c.args.slots.now c.args.slot c.binary_search.result c.requires c.binary_search.ensures.position
