use Rattle.std.proofs.Common.{◌≡◌, ◌≤◌, ◌+◌, ◌*◌, length, drop}
use Rattle.cc_typed.proofs.CcSyntax.Measure.{arrays, in_members, in_structures}
use Rattle.cc_pieces.specs.View.{pieces_of}
use Rattle.cc_print.specs.Values.{filled, filler, further_elements, elements, further_members, member_fillers, structure_fillers}
use Rattle.cc_print.proofs.values.+values.Given as goal

abbrev pub decreases-put_value : goal.decreases-put_value
decreases-put_value l = 2 * (arrays l.t.now + in_structures l.structures.now)

abbrev pub decreases-put_elements : goal.decreases-put_elements
decreases-put_elements l = 2 * (arrays l.of.now + in_structures l.structures.now) + 1

abbrev pub decreases-put_members : goal.decreases-put_members
decreases-put_members l = 2 * (in_structures l.structures.now + in_members l.members.now) + 1

-- the elements that are left complete the array
abbrev pub invariant-put_elements-loop-more : goal.invariant-put_elements-loop-more
invariant-put_elements-loop-more l =
    further_elements l.more (filler l.source.program.now l.source.leaves.now l.structures l.of) (filled l.rest (pieces_of l.out.items))
    ≡ elements l.n (filler l.source.program.now l.source.leaves.now l.structures l.of) (filled l.left (pieces_of l.fn.out.items))

abbrev pub decreases-put_elements-loop-more : goal.decreases-put_elements-loop-more
decreases-put_elements-loop-more l = l.more

-- the members from here on are printed
abbrev pub invariant-put_members-loop-i : goal.invariant-put_members-loop-i
invariant-put_members-loop-i l = (1 ≤ l.i) × (l.i ≤ length l.members)
    × (filled l.rest (pieces_of l.out.items)
    ≡ further_members (member_fillers l.source.program.now l.source.leaves.now (structure_fillers l.source.program.now l.source.leaves.now l.structures) (drop l.i l.members)) (filled l.left (pieces_of l.fn.out.items)))

abbrev pub decreases-put_members-loop-i : goal.decreases-put_members-loop-i
decreases-put_members-loop-i l = l.i
