use Rattle.std.proofs.Common.{length}
use Rattle.cc_control.proofs.goes_on.+broken.Given as goal

abbrev pub decreases-broken : goal.decreases-broken
decreases-broken l = length l.around.now
