use Rattle.cc_names.proofs.Takings.{holds-given}
use Rattle.cc_names.proofs.taken.Taken.give.Goals as goal

pub returns : goal.returns
returns c = holds-given c.args.self.now c.take.new.self c.args.name.now c.in_ok-take.ensures.names c.in_ok-take.ensures.count c.in_ok-take.ensures.renamed c.in_ok-take.ensures.numbered
