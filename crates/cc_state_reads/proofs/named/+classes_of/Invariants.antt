use Rattle.cc_state_values.proofs.Heights.{place_height}
use Rattle.cc_state_reads.proofs.named.+classes_of.Given as goal

abbrev pub decreases-classes_of : goal.decreases-classes_of
decreases-classes_of g l = place_height l.a.now
