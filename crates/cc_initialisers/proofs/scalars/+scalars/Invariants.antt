use Rattle.std.proofs.Common.{◌≡◌, ◌++◌, ◌+◌, ◌-◌, ◌*◌, map, drop}
use Rattle.cc_initialisers.specs.Contents.{contents_over, structure_inside, of_members}
use Rattle.cc_initialisers.specs.Scalars.{elements_from, scalars_from}
use Rattle.cc_initialisers.specs.View.{part_view, members_view, content_view}
use Rattle.cc_initialisers.proofs.Sizes.{nodes}
use Rattle.cc_operands.specs.CcSyntax.Types.{Named}
use Rattle.cc_initialisers.proofs.scalars.+scalars.Given as goal

abbrev pub decreases-put_scalars : goal.decreases-put_scalars
decreases-put_scalars l = 3 * nodes (content_view l.object) + 1

abbrev pub decreases-put_elements : goal.decreases-put_elements
decreases-put_elements l = 3 * nodes (part_view l.of) + 3

abbrev pub decreases-put_members : goal.decreases-put_members
decreases-put_members l = 3 * nodes (members_view l.members)

abbrev pub invariant-put_elements-loop-i : goal.invariant-put_elements-loop-i
invariant-put_elements-loop-i l = l.out.items ++ elements_from l.target l.i (l.n - l.i) (scalars_from l.target (part_view l.of) 0) l.array ≡ l.fn.out.items ++ elements_from l.target 0 l.n (scalars_from l.target (part_view l.of) 0) l.array

abbrev pub invariant-put_members-loop-named : goal.invariant-put_members-loop-named
invariant-put_members-loop-named l = l.out.items ++ scalars_from l.target (of_members (map (λ (m : Named). contents_over (structure_inside l.members.structures.now l.members.depth) m.1) (drop l.named-index l.members.all.now)) l.members.constant) l.m l.structure ≡ l.fn.out.items ++ scalars_from l.target (members_view l.members) 0 l.structure
