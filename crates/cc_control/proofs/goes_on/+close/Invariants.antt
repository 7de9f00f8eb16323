use Rattle.std.proofs.Common.{length}
use Rattle.cc_control.proofs.goes_on.+close.Given as goal

abbrev pub decreases-close : goal.decreases-close
decreases-close l = length l.around.now
