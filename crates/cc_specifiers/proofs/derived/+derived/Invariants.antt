use Rattle.std.proofs.Common.{length}
use Rattle.cc_specifiers.proofs.derived.+derived.Given as goal

abbrev pub decreases-derived : goal.decreases-derived
decreases-derived g l = length l.ds.now
