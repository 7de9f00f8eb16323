use Rattle.cc_bins.proofs.Ready.{Filled}
use Rattle.cc_bins.proofs.placing.fill.Given as goal

abbrev pub invariant-loop-want : goal.invariant-loop-want
invariant-loop-want l = Filled l.order l.want-index l.words.items l.cursor
