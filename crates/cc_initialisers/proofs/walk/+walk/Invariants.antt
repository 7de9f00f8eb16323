use Rattle.std.proofs.Common.{◌≡◌, ◌≤◌, ◌+◌, ◌*◌, map}
use Rattle.cc_initialisers.specs.Contents.{contents_over, structure_inside}
use Rattle.cc_initialisers.specs.Counts.{initialisers_among}
use Rattle.cc_initialisers.specs.Initialisers.{behind, repeated, started, elided, here}
use Rattle.cc_initialisers.specs.View.{part_view, members_view, content_view, steps_of}
use Rattle.cc_initialisers.proofs.Filling.{members_filled}
use Rattle.cc_initialisers.proofs.Sizes.{nodes}
use Rattle.cc_operands.specs.CcSyntax.Types.{Named}
use Rattle.cc_initialisers.proofs.walk.+walk.Given as goal

abbrev pub decreases-braced : goal.decreases-braced
decreases-braced l = 3 * (initialisers_among l.gs.now + nodes (content_view l.object)) + 3

abbrev pub decreases-taken : goal.decreases-taken
decreases-taken l = 3 * (initialisers_among l.gs.now + nodes (content_view l.object)) + 2

abbrev pub decreases-elided : goal.decreases-elided
decreases-elided l = 3 * (initialisers_among l.gs.now + nodes (content_view l.object)) + 1

abbrev pub decreases-started : goal.decreases-started
decreases-started l = 3 * (initialisers_among l.gs.now + nodes (content_view l.object)) + 2

abbrev pub decreases-elements_filled : goal.decreases-elements_filled
decreases-elements_filled l = 3 * (initialisers_among l.gs.now + nodes (part_view l.of)) + 3

abbrev pub decreases-members_filled : goal.decreases-members_filled
decreases-members_filled l = 3 * (initialisers_among l.gs.now + nodes (members_view l.members))

-- the elements that are missing complete the array
abbrev pub invariant-elements_filled-loop-missing : goal.invariant-elements_filled-loop-missing
invariant-elements_filled-loop-missing l = record {
  filled : behind (steps_of l.out) (repeated l.missing (started (part_view l.of) (elided (part_view l.of))) l.place (map here l.rest)) ≡ behind (steps_of l.fn.out) (repeated l.n (started (part_view l.of) (elided (part_view l.of))) l.place (map here l.gs));
  fewer : initialisers_among l.rest ≤ initialisers_among l.gs;
}

abbrev pub decreases-elements_filled-loop-missing : goal.decreases-elements_filled-loop-missing
decreases-elements_filled-loop-missing l = l.missing

-- the members from here on complete the structure
abbrev pub invariant-members_filled-loop-member : goal.invariant-members_filled-loop-member
invariant-members_filled-loop-member l = record {
  filled : behind (steps_of l.out) (members_filled (λ (m : Named). contents_over (structure_inside l.members.structures.now l.members.depth) m.1) l.members.constant l.members.all.now l.member-index l.place (map here l.rest)) ≡ behind (steps_of l.fn.out) (elided (members_view l.members) l.place (map here l.gs));
  fewer : initialisers_among l.rest ≤ initialisers_among l.gs;
}
