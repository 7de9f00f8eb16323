use Rattle.std.proofs.Common.{[], Option, List, unwrap_or, ap, ◌∙◌}
use Rattle.std.proofs.lemmas.Option.{unwrap_or-slice_get}
use Rattle.cc_slots_accesses.specs.declared.access.Access.{Access}
use Rattle.cc_slots.proofs.list.accesses_of.Goals as goal

pub returns-in-None : goal.returns-in-None
returns-in-None c = ap (λ (o : Option (List Access)). unwrap_or o []) c.in-None.ensures ∙ unwrap_or-slice_get c.args.lists.now c.args.number []

pub returns-in-Some : goal.returns-in-Some
returns-in-Some c = c.all.ensures ∙ (ap (λ (o : Option (List Access)). unwrap_or o []) c.in-Some.ensures ∙ unwrap_or-slice_get c.args.lists.now c.args.number [])
