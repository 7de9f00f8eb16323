use Rattle.std.proofs.Common.{take}
use Rattle.cc_rules_tests.proofs.Staying.{StayOf}
use Rattle.cc_rules_flows.specs.CcStateOperators.Domains.{domain, IsHull}
use Rattle.cc_rules_tests.proofs.tested.Tested.staying.Given as goal

abbrev pub invariant-loop-at : goal.invariant-loop-at
invariant-loop-at g l =
    let d = (domain g.I.Concrete.Has g.I.Lattice.IsBelow g.I.IntDomain.OpGives g.I.IntDomain.OpOneGives g.I.IntDomain.ToGives g.I.IntDomain.KeepGives g.I.IntDomain.members_of) in
    IsHull d (StayOf d l.self l.tried.register (take l.at l.numbers)) l.left
