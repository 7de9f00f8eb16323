use Rattle.std.proofs.Common.{take}
use Rattle.cc_state_operators.specs.Domains.{domain, IsHullFrom, AllOf}
use Rattle.cc_state_operators.specs.Operands.{related_type, GiveEach}
use Rattle.cc_state_operators.proofs.pairs.with_each.Given as goal

abbrev pub invariant-loop-other : goal.invariant-loop-other
invariant-loop-other g l =
    let d = domain g.I.Concrete.Has g.I.Lattice.IsBelow g.I.IntDomain.OpGives g.I.IntDomain.OpOneGives g.I.IntDomain.ToGives g.I.IntDomain.KeepGives g.I.IntDomain.members_of in
    IsHullFrom d l.fn.set (GiveEach l.relation l.target l.p (take l.other-index l.others)) l.all ×
    (AllOf d (related_type l.relation l.target) l.target l.fn.set → AllOf d (related_type l.relation l.target) l.target l.all)
