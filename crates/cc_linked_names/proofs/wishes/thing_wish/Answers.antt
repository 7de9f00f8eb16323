use Rattle.std.proofs.Common.{◌∙◌, ap}
use Rattle.std.specs.Prelude.{codes}
use Rattle.cc_linked_names.specs.Given.{wish_or}
use Rattle.cc_things.specs.Things.{own_name}
use Rattle.cc_linked_names.proofs.wishes.thing_wish.Goals as goal

pub returns : goal.returns
returns c = c.own_or_text.ensures ∙ ap (wish_or (codes "text")) (c.own_name_there.ensures ∙ ap own_name c.thing_at.ensures)
