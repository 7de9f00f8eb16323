use Rattle.std.proofs.Common.{◌+◌, ◌*◌, drop}
use Rattle.cc_typed.proofs.CcSyntax.Measure.{arrays, in_members, in_structures}
use Rattle.cc_sound.proofs.LeafLemmas.{SameElements, SameMembers}
use Rattle.cc_sound.proofs.initial.+leaves.Given as goal

abbrev pub decreases-behind : goal.decreases-behind
decreases-behind l = 2 * (arrays l.t.now + in_structures l.before.now)

abbrev pub decreases-behind_elements : goal.decreases-behind_elements
decreases-behind_elements l = 2 * (arrays l.of.now + in_structures l.before.now) + 1

abbrev pub decreases-behind_members : goal.decreases-behind_members
decreases-behind_members l = 2 * (in_members l.members.now + in_structures l.before.now) + 1

abbrev pub invariant-behind_elements-loop-missing : goal.invariant-behind_elements-loop-missing
invariant-behind_elements-loop-missing l = SameElements l.p l.of l.missing l.left l.fn.count l.fn.leaves

abbrev pub decreases-behind_elements-loop-missing : goal.decreases-behind_elements-loop-missing
decreases-behind_elements-loop-missing l = l.missing

abbrev pub invariant-behind_members-loop-t : goal.invariant-behind_members-loop-t
invariant-behind_members-loop-t l = SameMembers l.p (drop l.t-index l.members) l.left l.members l.fn.leaves
