use Rattle.std.proofs.Common.{take}
use Rattle.cc_rules_asked.specs.Asked.{all_needs}
use Rattle.cc_rules_raised.proofs.Outcomes.{IsProgress}
use Rattle.cc_rules_raised.proofs.raise.raise_all.Given as goal
use Rattle.cc_rules_asked.specs.CcStateOperators.Domains.{domain}

abbrev pub invariant-loop-one : goal.invariant-loop-one
invariant-loop-one g l = IsProgress (domain g.I.Concrete.Has g.I.Lattice.IsBelow g.I.IntDomain.OpGives g.I.IntDomain.OpOneGives g.I.IntDomain.ToGives g.I.IntDomain.KeepGives g.I.IntDomain.members_of) l.p (all_needs l.p (take l.one-index l.asked)) l.fn.facts l.facts l.rose
