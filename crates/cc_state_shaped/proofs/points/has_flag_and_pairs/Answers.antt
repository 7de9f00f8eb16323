use Rattle.std.proofs.Common.{length}
use Rattle.cc_state_shaped.specs.Parts.{HavePairs}
use Rattle.cc_state_shaped.proofs.Tests.{both, not_first}
use Rattle.cc_state_shaped.proofs.points.has_flag_and_pairs.Goals as goal

pub returns-then-is_flagged : goal.returns-then-is_flagged
returns-then-is_flagged g c = both c.is_flagged.result c.have_pairs.result c.is_flagged.ensures c.if-is_flagged.true c.have_pairs.ensures

pub returns-else-is_flagged : goal.returns-else-is_flagged
returns-else-is_flagged g c =
    not_first {B = HavePairs c.args.fact.now (length c.args.registers.now) (length c.args.layout.now.tracked)} c.is_flagged.result c.is_flagged.ensures c.if-is_flagged.false
