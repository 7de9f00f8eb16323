use Rattle.std.proofs.Common.{◌∙◌, sym}
use Rattle.std.proofs.lemmas.Option.{none-some}
use Rattle.cc_slots.proofs.list.number_of.Goals as goal

pub unreachable-requires : goal.unreachable-requires
unreachable-requires c = none-some c.requires.there.0 (sym c.in-None.is ∙ (c.key_number.ensures c.args.p.now c.requires.keys ∙ c.requires.there.1))

pub returns : goal.returns
returns c = sym (c.key_number.ensures c.args.p.now c.requires.keys) ∙ c.in-Some.is
