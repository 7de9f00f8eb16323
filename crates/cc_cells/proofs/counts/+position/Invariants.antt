use Rattle.std.proofs.Common.{length}
use Rattle.cc_cells.proofs.counts.+position.Given as goal

abbrev pub decreases-position : goal.decreases-position
decreases-position l = length l.path.now
