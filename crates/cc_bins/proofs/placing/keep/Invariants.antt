use Rattle.cc_bins.proofs.Kept.{Kept}
use Rattle.cc_bins.proofs.placing.keep.Given as goal

abbrev pub invariant-loop-opened : goal.invariant-loop-opened
invariant-loop-opened l = Kept l.open_words l.opened-index l.words.items l.fields.items
