use Rattle.std.proofs.Common.{length}
use Rattle.cc_control.proofs.goes_on.+continued.Given as goal

abbrev pub decreases-continued : goal.decreases-continued
decreases-continued l = length l.around.now
