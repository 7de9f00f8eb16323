use Rattle.std.proofs.Common.{length}
use Rattle.cc_state_shaped.specs.Parts.{IsFlagged, HavePairs}
use Rattle.cc_state_shaped.proofs.Tests.{both, not_first}
use Rattle.cc_state_shaped.proofs.points.has_parts.Goals as goal

pub returns-then-have_sets : goal.returns-then-have_sets
returns-then-have_sets g c = both c.have_sets.result c.has_flag_and_pairs.result c.have_sets.ensures c.if-have_sets.true c.has_flag_and_pairs.ensures

pub returns-else-have_sets : goal.returns-else-have_sets
returns-else-have_sets g c =
    not_first {B = IsFlagged c.args.fact.now × HavePairs c.args.fact.now (length c.args.registers.now) (length c.args.layout.now.tracked)} c.have_sets.result c.have_sets.ensures c.if-have_sets.false
