use Rattle.cc_slots_points.specs.Lists.{AreListsBelow}
use Rattle.cc_state_points.specs.CcStateOperators.Domains.{domain}
use Rattle.cc_slots_points.proofs.lists.pass_all.Given as goal

abbrev pub invariant-loop-point : goal.invariant-loop-point
invariant-loop-point g l =
    AreListsBelow (domain g.I.Concrete.Has g.I.Lattice.IsBelow g.I.IntDomain.OpGives g.I.IntDomain.OpOneGives g.I.IntDomain.ToGives g.I.IntDomain.KeepGives g.I.IntDomain.members_of) l.p l.facts l.point l.lists
