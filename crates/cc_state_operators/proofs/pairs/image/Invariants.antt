use Rattle.std.proofs.Common.{take}
use Rattle.cc_state_operators.specs.Domains.{domain, IsHull, AllOf}
use Rattle.cc_state_operators.specs.Operands.{related_type, GiveAll}
use Rattle.cc_state_operators.proofs.pairs.image.Given as goal

abbrev pub invariant-loop-member : goal.invariant-loop-member
invariant-loop-member g l =
    let d = domain g.I.Concrete.Has g.I.Lattice.IsBelow g.I.IntDomain.OpGives g.I.IntDomain.OpOneGives g.I.IntDomain.ToGives g.I.IntDomain.KeepGives g.I.IntDomain.members_of in
    IsHull d (GiveAll l.relation l.target (take l.member-index l.members) l.others) l.all × AllOf d (related_type l.relation l.target) l.target l.all
