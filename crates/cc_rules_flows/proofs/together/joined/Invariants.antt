use Rattle.std.proofs.Common.{take}
use Rattle.cc_rules_flows.proofs.JoinLemmas.{AreKnownTo, facts_to}
use Rattle.cc_rules_flows.proofs.together.joined.Given as goal

abbrev pub invariant-loop-flow : goal.invariant-loop-flow
invariant-loop-flow g l = AreKnownTo g.I.Lattice.IsBelow l.point l.told (facts_to l.point (take l.flow-index l.told)) l.both
