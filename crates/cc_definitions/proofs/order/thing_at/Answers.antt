use Rattle.std.proofs.Common.{◌∙◌, ap}
use Rattle.cc_definitions.proofs.Numbered.{thing_told}
use Rattle.cc_definitions.specs.Definitions.{thing_or_none}
use Rattle.cc_definitions.proofs.order.thing_at.Goals as goal

pub returns : goal.returns
returns c = ap thing_or_none c.at.ensures ∙ thing_told c.args.things.now c.args.number
