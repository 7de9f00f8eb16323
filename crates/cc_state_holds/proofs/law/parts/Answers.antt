-- Part by part.
use Rattle.cc_state_holds.proofs.Whole.{by_parts}
use Rattle.cc_state_holds.proofs.law.parts.Goals as goal
use Rattle.cc_state_reads.specs.CcStateOperators.Domains.{domain}

pub returns : goal.returns
returns g c = by_parts (domain g.I.Concrete.Has g.I.Lattice.IsBelow g.I.IntDomain.OpGives g.I.IntDomain.OpOneGives g.I.IntDomain.ToGives g.I.IntDomain.KeepGives g.I.IntDomain.members_of)
