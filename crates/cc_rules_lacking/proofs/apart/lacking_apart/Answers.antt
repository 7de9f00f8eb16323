use Rattle.cc_rules_lacking.proofs.Firsts.{pairs_had}
use Rattle.cc_rules_lacking.proofs.apart.lacking_apart.Goals as goal
use Rattle.cc_rules_asked.specs.CcStateFacts.Facts.{has_pair}

pub returns-then-has_all_apart : goal.returns-then-has_all_apart
returns-then-has_all_apart g c = pairs_had g.I.Lattice.IsBelow c.args.facts.now c.args.point (has_pair c.args.flow.now) c.args.registers c.args.cells (c.has_all_apart.ensures c.if-has_all_apart.true)
