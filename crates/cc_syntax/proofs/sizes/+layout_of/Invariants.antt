use Rattle.std.proofs.Common.{◌+◌}
use Rattle.cc_syntax.proofs.Measure.{arrays, in_members, in_structures}
use Rattle.cc_syntax.proofs.Members.{Laid}
use Rattle.cc_syntax.proofs.sizes.+layout_of.Given as goal

abbrev pub decreases-layout_of : goal.decreases-layout_of
decreases-layout_of l = arrays l.t.now + in_structures l.structures.now

abbrev pub decreases-structure : goal.decreases-structure
decreases-structure l = in_structures l.structures.now + in_members l.members.now + 1

abbrev pub invariant-structure-loop-ctype : goal.invariant-structure-loop-ctype
invariant-structure-loop-ctype l = Laid l.members l.structures l.target l.ctype-index l.end l.align
