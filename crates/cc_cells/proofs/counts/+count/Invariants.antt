use Rattle.std.proofs.Common.{◌≡◌, ◌+◌, take}
use Rattle.cc_typed.proofs.CcSyntax.Measure.{arrays, in_members, in_structures}
use Rattle.cc_cells.specs.Counts.{counted, member_count}
use Rattle.cc_cells.proofs.counts.+count.Given as goal

abbrev pub decreases-count : goal.decreases-count
decreases-count l = arrays l.t.now + in_structures l.structures.now

abbrev pub decreases-count_members : goal.decreases-count_members
decreases-count_members l = in_structures l.structures.now + in_members l.members.now + 1

abbrev pub invariant-count_members-loop-t : goal.invariant-count_members-loop-t
invariant-count_members-loop-t l = l.all ≡ counted (member_count l.structures (take l.t-index l.members))
