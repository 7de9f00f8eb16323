use Rattle.std.proofs.Common.{drop}
use Rattle.cc_rules_tests.proofs.Cuts.{IsCutSoFar}
use Rattle.cc_rules_flows.specs.CcStateOperators.Domains.{domain}
use Rattle.cc_rules_tests.proofs.tested.Tested.without_labels.Given as goal

abbrev pub invariant-loop-n : goal.invariant-loop-n
invariant-loop-n g l =
    IsCutSoFar (domain g.I.Concrete.Has g.I.Lattice.IsBelow g.I.IntDomain.OpGives g.I.IntDomain.OpOneGives g.I.IntDomain.ToGives g.I.IntDomain.KeepGives g.I.IntDomain.members_of) l.self l.labels l.x (drop l.n-index l.labels) l.left × g.I.Lattice.IsBelow l.left l.x
