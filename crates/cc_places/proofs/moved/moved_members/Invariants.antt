use Rattle.std.proofs.Common.{take}
use Rattle.cc_places.specs.Sets.{IsSetOf}
use Rattle.cc_places.specs.Moves.{AreMoved}
use Rattle.cc_places.proofs.moved.moved_members.Given as goal

abbrev pub invariant-loop-member : goal.invariant-loop-member
invariant-loop-member g l = IsSetOf (AreMoved (g.I.Concrete.Has l.by) (take l.member-index l.members)) l.all
