use Rattle.cc_names.proofs.Takings.{holds-reserved}
use Rattle.cc_names.proofs.taken.Taken.reserve.Goals as goal

pub returns : goal.returns
returns c = holds-reserved c.args.self.now c.take.new.self c.args.name.now c.in_ok-take.ensures.names c.in_ok-take.ensures.count c.in_ok-take.ensures.renamed c.in_ok-take.ensures.numbered
