-- The law, over each domain.
use Rattle.cc_state_limits.proofs.Smallness.{facts_small}
use Rattle.cc_state_limits.proofs.law.laws.Goals as goal
use Rattle.cc_state_reads.specs.CcStateOperators.Domains.{domain}

pub returns : goal.returns
returns g c =
    let d = domain g.I.Concrete.Has g.I.Lattice.IsBelow g.I.IntDomain.OpGives g.I.IntDomain.OpOneGives g.I.IntDomain.ToGives g.I.IntDomain.KeepGives g.I.IntDomain.members_of in
    record { small = λ p facts limits shape held. facts_small d p facts limits shape held }
