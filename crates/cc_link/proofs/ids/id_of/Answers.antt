use Rattle.std.proofs.Common.{◌∙◌, Option, ap}
use Rattle.std.proofs.lemmas.Option.{unwrap_or-slice_get}
use Rattle.std.specs.Prelude.{unwrap_or}
use Rattle.cc_unit.specs.declared.ids.Id.{Id}
use Rattle.cc_unit.specs.declared.ids.Id.TheVariants as id
use Rattle.cc_link.proofs.ids.id_of.Goals as goal

pub returns-in-None : goal.returns-in-None
returns-in-None c = ap (λ (o : Option Id). unwrap_or o (id.Object 0)) c.in-None.ensures ∙ unwrap_or-slice_get c.args.table.now c.args.number (id.Object 0)

pub returns-in-Some : goal.returns-in-Some
returns-in-Some c = ap (λ (o : Option Id). unwrap_or o (id.Object 0)) c.in-Some.ensures ∙ unwrap_or-slice_get c.args.table.now c.args.number (id.Object 0)
