use Rattle.std.proofs.Common.{ℕ, ◌<◌}
use Rattle.cc_state_reads.specs.CcStateFacts.Facts.{levels_of}
use Rattle.cc_state_shaped.specs.Parts.{IsMarkedAt}
use Rattle.cc_state_shaped.proofs.marks.are_marked.Given as goal

abbrev pub invariant-loop-number : goal.invariant-loop-number
invariant-loop-number l = (k : ℕ) → k < l.number → IsMarkedAt l.first l.second k (levels_of l.levels k)
