use Rattle.cc_rules_constraints.proofs.Breaks.{AreMetBelow}
use Rattle.cc_rules_constraints.proofs.broken.first_broken.Given as goal
use Rattle.cc_rules_asked.specs.CcStateOperators.Domains.{domain}

abbrev pub invariant-loop-number : goal.invariant-loop-number
invariant-loop-number g l = AreMetBelow (domain g.I.Concrete.Has g.I.Lattice.IsBelow g.I.IntDomain.OpGives g.I.IntDomain.OpOneGives g.I.IntDomain.ToGives g.I.IntDomain.KeepGives g.I.IntDomain.members_of) l.rules.program.now l.facts l.number
